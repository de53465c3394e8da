-- What the access rule grants on a used file may be stored: it is not zero, and lies within 0x1F01FF. The root is not
-- granted to an open that deletes on close.
use Rattle.base.{specs.Base.{ℕ, has, within, without, all, all_access, maximum_allowed, read_only, Namespace, status_number, accounts, file_used, is_data, mask_of, root, File, FileNo, Request, eqb, length, Bool, ◌&&◌, ◌||◌, cond, false, not, true, ◌≢◌, ◌≡◌, none, some, some_or}, proofs.Laws.{excluded, fails_iff, not_is, and_right, or_neither, all_slots, Ends, ends_bind, ends_test, goes, stops, eqb-false, not-false, not-true, ◌∙◌, refl, sym}}
use Rattle.access.specs.Access.{access_from, access_rule, checked_access, effective, need}
use Rattle.bits.proofs.Sets.{within_less, within_self, within_trans, within_zero, without_none}
use Rattle.consistency.{proofs.{Derived.file_good, Numbered.file_iff}, specs.{Good.GoodTerms, Relations.valid_masks}}
use Rattle.tables.specs.Tables.{file_at}
use Rattle.store.proofs.Sequences.{Facts.{Early, NamespaceConsistent}, Requested.RequestFits}
use Rattle.store.specs.{Prepare.{grant, may_go}, Request.deletes_on_close}

mask_within : (f : File) (account : ℕ) → valid_masks f.masks ≡ true → within (mask_of f account) all_access ≡ true
unfolding valid_masks mask_of
mask_within f account h =
    all_slots (λ m. within m all_access) 0 (within_zero all_access) f.masks
    (and_right (eqb (length f.masks) accounts) (all (λ m. within m all_access) f.masks) h) account

effective-within : (f : File) (account : ℕ) → valid_masks f.masks ≡ true → within (effective f account) all_access ≡ true
unfolding effective
effective-within f account h = go (is_data f.file_type && has f.attributes read_only)
  where
    m : ℕ
    m = mask_of f account

    go : (b : Bool) → within (cond b (without m 0x6) m) all_access ≡ true
    go true = within_less m all_access 0x6 (mask_within f account h)
    go false = mask_within f account h

-- the rule over an effective mask
from_ends : (mask access : ℕ) → access ≢ 0
    → Ends Early (λ g. (g ≢ 0) × (within g mask ≡ true)) (checked_access (access_from mask access))
unfolding access_from checked_access some_or need status_number
from_ends mask access nz = go (not (within (need access) mask) || eqb mask 0) refl
  where
    kept : (b : Bool) → has access maximum_allowed ≡ b → within (need access) mask ≡ true → mask ≢ 0
        → (cond b mask (need access) ≢ 0) × (within (cond b mask (need access)) mask ≡ true)
    kept true e w m = (m, within_self mask)
    kept false e w m = (λ z. nz (sym (without_none access maximum_allowed e) ∙ z), w)

    go : (b : Bool) → (not (within (need access) mask) || eqb mask 0) ≡ b
        → Ends Early (λ g. (g ≢ 0) × (within g mask ≡ true))
        (checked_access (cond b none (some (cond (has access maximum_allowed) mask (need access)))))
    go true e = stops (refl, refl)
    go false e =
        let n = or_neither (not (within (need access) mask)) (eqb mask 0) e in
        goes
        (kept (has access maximum_allowed) refl (not-false (within (need access) mask) n.0) (eqb-false mask 0 n.1))

-- an open that deletes on close passed the test that its file may go
root_stays_lem : (ns : Namespace) (f : FileNo) (deletes : Bool) → (deletes && not (may_go ns f)) ≡ false → deletes ≡ true → f ≢ root
unfolding may_go
root_stays_lem ns f deletes h d =
    let may = not-false (may_go ns f) (excluded deletes (not (may_go ns f)) (not_is h) d) in
    (fails_iff (file_iff f root)).0
    (or_neither (eqb f.0 0) (has (file_at ns.files f).attributes read_only) (not-true _ may)).0

pub grant_ends : (ns : Namespace) (r : Request) (f : FileNo) (access : ℕ) → NamespaceConsistent ns → RequestFits r
    → file_used (file_at ns.files f) ≡ true → access ≢ 0
    → Ends Early (λ t. GoodTerms t × (deletes_on_close r ≡ true → f ≢ root)) (grant ns r f access)
unfolding grant access_rule status_number
grant_ends ns r f access ok fits used nz =
    let mask = effective (file_at ns.files f) r.account in
    ends_bind (from_ends mask access nz)
    (λ g q.
    ends_test _ _ (refl, refl)
    (λ h.
    goes (
      record {
        granted_nonzero = q.0;
        granted_within =
            within_trans g mask all_access q.1
            (effective-within (file_at ns.files f) r.account (file_good ok.files f used).masks_within);
        share_at_most = fits.share_at_most;
      },
      root_stays_lem ns f (deletes_on_close r) h,
    )))
