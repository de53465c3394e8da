-- What steps 1 and 2 leave of a request's numbers, and the numbers that steps 9 and 11 make of them.
use Rattle.base.{specs.Base.{◌≤◌, ℕ, has, within, without, one_of, all_access, append_data, archive, delete, directory, file_attributes, maximum_allowed, not_content_indexed, overwrite, overwrite_if, supersede, is_directory, File, Data, Directory, Request, bit_and, bit_or, eqb, ltb, Bool, ◌&&◌, ◌||◌, cond, false, not, true, [], ◌∷◌, ◌≢◌, ◌≡◌}, proofs.Laws.{or_neither, eqb-false, not-false, ltb-false, ◌∙◌, ap₂, refl, arith}}
use Rattle.bits.proofs.Sets.{has_iff_false, has_meets, has_or, has_subset, within_and_r, within_iff, within_less, within_mono, within_or, within_self, within-split, without_clears}
use Rattle.consistency.specs.Good.{GoodAttributes, GoodTerms}
use Rattle.store.specs.{Prepare.{attributes_new, granted_new, new_type}, Request.{bad_access, bad_parameters, deletes_on_close, wants_directory}}

pub record RequestFits (r : Request) : Type 0 where
  pub access_nonzero : r.access ≢ 0
  pub access_within : within r.access (bit_or all_access maximum_allowed) ≡ true
  pub share_at_most : r.share ≤ 7
  pub attributes_within : within r.attributes 0x31A7 ≡ true

pub requested : (r : Request) → bad_parameters r ≡ false → bad_access r ≡ false → RequestFits r
unfolding bad_parameters bad_access
requested r p q =
    let a = ltb 7 r.account in
    let b = ltb 7 r.share in
    let c = ltb 5 r.disposition in
    let d = not (within r.options 0x2104F) in
    let e = not (within r.attributes 0x31A7) in
    let f = not (within r.access 0x0FFFFFFF) in
    let g = has r.options 0x8 && has r.access append_data in
    let i = deletes_on_close r && not (has r.access delete) in
    let h =
    wants_directory r && (has r.options 0x2000C || one_of r.disposition (supersede ∷ overwrite ∷ overwrite_if ∷ [])) in
    let p8 = or_neither (a || b || c || d || e || f || g || i) h p in
    let p7 = or_neither (a || b || c || d || e || f || g) i p8.0 in
    let p6 = or_neither (a || b || c || d || e || f) g p7.0 in
    let p5 = or_neither (a || b || c || d || e) f p6.0 in
    let p4 = or_neither (a || b || c || d) e p5.0 in
    let p3 = or_neither (a || b || c) d p4.0 in
    let p2 = or_neither (a || b) c p3.0 in
    let p1 = or_neither a b p2.0 in
    let q2 = or_neither (eqb r.access 0 || has r.access 0x0CE0FE00) (has r.access 0x01000000) q in
    let q1 = or_neither (eqb r.access 0) (has r.access 0x0CE0FE00) q2.0 in
    record {
      access_nonzero = eqb-false r.access 0 q1.0;
      access_within =
          within-split r.access 0x021F01FF 0x01000000
          (within-split r.access 0x031F01FF 0x0CE0FE00 (not-false (within r.access 0x0FFFFFFF) p5.1) q1.1)
          q2.1;
      share_at_most = ltb-false 7 r.share p1.1;
      attributes_within = not-false (within r.attributes 0x31A7) p4.1;
    }

-- step 9's granted access
pub granted_new_lem : (r : Request) → RequestFits r → GoodTerms (record { granted = granted_new r.access; share = r.share })
unfolding granted_new
granted_new_lem r fits = go (has r.access maximum_allowed) refl
  where
    go : (b : Bool) → has r.access maximum_allowed ≡ b
        → GoodTerms (record { granted = cond b all_access r.access; share = r.share })
    go true e = record { granted_nonzero = λ z. omega arith; granted_within = within_self all_access; share_at_most = fits.share_at_most }
    go false e =
        record {
          granted_nonzero = fits.access_nonzero;
          granted_within = within-split r.access all_access maximum_allowed fits.access_within e;
          share_at_most = fits.share_at_most;
        }

-- step 11: asked plus 0x20 minus 0x2080
pub replaced : (r : Request) → RequestFits r → GoodAttributes false (without (bit_or r.attributes archive) 0x2080)
replaced r fits =
    let a = bit_or r.attributes archive in
    let w : within a 0x31A7 ≡ true =
    within_or r.attributes archive 0x31A7 fits.attributes_within ((within_iff archive 0x31A7).1 refl) in
    let n : within (without a 0x2080) 0x1127 ≡ true =
    within-split (without a 0x2080) 0x1127 0x2080 (within_less a 0x31A7 0x2080 w) (without_clears a 0x2080) in
    record {
      attributes_within = within_mono (without a 0x2080) 0x1127 file_attributes n refl;
      directory_bit = has_subset (without a 0x2080) 0x1127 directory n ((has_iff_false 0x1127 directory).1 refl);
    }

-- a union of attributes
joined : (x y : ℕ) (c d : Bool) → GoodAttributes c x → GoodAttributes d y → GoodAttributes (c || d) (bit_or x y)
joined x y c d h k =
    record {
      attributes_within = within_or x y file_attributes h.attributes_within k.attributes_within;
      directory_bit = has_or x y directory ∙ ap₂ (λ (p q : Bool). p || q) h.directory_bit k.directory_bit;
    }

-- a part of a mask without 0x10
part_of_lem : (x m : ℕ) → within x m ≡ true → bit_and m file_attributes ≡ m → bit_and m directory ≡ 0 → GoodAttributes false x
part_of_lem x m w i z =
    record {
      attributes_within = within_mono x m file_attributes w i;
      directory_bit = has_subset x m directory w ((has_iff_false m directory).1 z);
    }

-- step 11: a file gains 0x20
pub archived : (a : ℕ) → GoodAttributes false a → GoodAttributes false (bit_or a archive)
archived a h = joined a archive false false h (part_of_lem archive archive (within_self archive) refl refl)

-- step 9: the bit of the new file's type
directory_kind : GoodAttributes (is_directory Directory) directory
unfolding is_directory
directory_kind = record { attributes_within = (within_iff directory file_attributes).1 refl; directory_bit = has_meets directory directory (λ e. omega arith) }

file_kind : GoodAttributes (is_directory Data) archive
unfolding is_directory
file_kind = part_of_lem archive archive (within_self archive) refl refl

pub attributes_new_lem : (r : Request) (parent : File) → GoodAttributes (is_directory (new_type r)) (attributes_new r parent)
unfolding attributes_new new_type
attributes_new_lem r parent =
    let asked = bit_and r.attributes 0x3127 in
    let inherited = bit_and parent.attributes not_content_indexed in
    let front =
    joined (without asked not_content_indexed) inherited false false
    (part_of_lem (without asked not_content_indexed) 0x3127
    (within_less asked 0x3127 not_content_indexed (within_and_r r.attributes 0x3127)) refl refl)
    (part_of_lem inherited not_content_indexed (within_and_r parent.attributes not_content_indexed) refl refl) in
    joined (bit_or (without asked not_content_indexed) inherited) (cond (wants_directory r) directory archive) false
    (is_directory (cond (wants_directory r) Directory Data)) front (kind (wants_directory r))
  where
    kind : (b : Bool) → GoodAttributes (is_directory (cond b Directory Data)) (cond b directory archive)
    kind true = directory_kind
    kind false = file_kind
