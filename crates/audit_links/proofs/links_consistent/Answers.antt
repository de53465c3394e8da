use Rattle.base.{specs.Base.{◌<◌, ◌≡◌, true, List, ℕ, get_or, link_used, zero_link, FileType, File, Link, file_name_limit, file_slots}, proofs.Laws.{sym, ap₂, ◌∙◌, arith, rules}}
use Rattle.consistency.specs.{Slots.slot_test, Good.{good_link, is_zero_link}}
use Rattle.layout.{specs.Layout.decode, proofs.Lengths.{files_count, links_count}}
use Rattle.name_keys.proofs.Weights.{key_used, key_free}
use Rattle.stored_names.specs.StoredNames.{units}
use Rattle.tables.specs.Tables.{link_at}
use Rattle.audit_links.proofs.{Links.{link_test, file_there, name_stored_lem}, Pass.{link_key, pass_none, pass_fails, pass_free, pass_used, count_fits, pass_names, pass_alike, pass_ends}}
use Rattle.audit_links.proofs.links_consistent.Goals as goal
use Rattle.audit_links.proofs.links_consistent.Goals.{After-slot_consistent, Joined-used, then-used, else-used, else-not-distinct-via-then-not-distinct+else-not-names_differ, else-not-distinct-via-else-not-distinct}

pub loop-i-init : goal.loop-i-init
loop-i-init c = pass_none (links_count c.args.b.now) (omega arith) c.own_numbers-up.ensures

-- the link that was read is the one at its place
here : (ls : List Link) (i : ℕ) {l : Link} → l ≡ link_at ls (record { 0 = i }) → l ≡ get_or ls i zero_link
unfolding link_at
here ls i e = e

-- it was tested with the types of its file and of its parent
tested : (c : After-slot_consistent) → c.slot_consistent.result ≡ link_test (decode c.args.b.now).volume.files c.read_link-l.result
tested c =
    c.slot_consistent.ensures
    ∙ ap₂ (λ (of up : FileType). slot_test link_used (good_link of up) is_zero_link c.read_link-l.result) c.read_file_type.ensures
    c.read_file_type-in-loop-i.ensures

pub returns-then-not-slot_consistent : goal.returns-then-not-slot_consistent
returns-then-not-slot_consistent c =
    sym
    (pass_fails c.loop-i.invariant (omega arith) (here _ _ c.read_link-l.ensures)
    (sym (tested (goal.at.returns-then-not-slot_consistent c).After-slot_consistent) ∙ c.if-not-slot_consistent.true))

-- it passes, and its key is kept
module _ (c : Joined-used) where
  abbrev link : Link
  link = c.read_link-l.result

  abbrev files : List File
  files = (decode c.args.b.now).volume.files

  passes : link_test files link ≡ true
  passes =
      sym
      (c.slot_consistent.ensures
      ∙ ap₂ (λ (of up : FileType). slot_test link_used (good_link of up) is_zero_link link) c.read_file_type.ensures
      c.read_file_type-in-loop-i.ensures)
      ∙ c.if-not-slot_consistent.false

  used_is : c.link_used-used.result ≡ link_used link
  used_is = c.link_used-used.ensures

  key : c.if-used.keys ≡ link_key link
  key = elim c.if-used.branch [
    | then-used w ↦
        let u = sym used_is ∙ w.if-used.true in
        w.keys-is ∙ w.name_key.ensures ∙ key_used file_name_limit u link.parent.0 link.name (search rules) (name_stored_lem files link u passes)
    | else-used w ↦ w.keys-is ∙ key_free (sym used_is ∙ w.if-used.false) link.parent.0 (units link.name)
  ]

  -- a used one is noted at its file's number
  below : c.link_used-used.result ≡ true → link.file.0 < file_slots
  below u = omega (arith, file_there files link (sym used_is ∙ u) passes, files_count c.args.b.now)

pub bounds-counts-f : goal.bounds-counts-f
bounds-counts-f c = below (goal.at.bounds-counts-f c).Joined-used c.if-used-2.true

pub bounds-counts-f-then-used-2 : goal.bounds-counts-f-then-used-2
bounds-counts-f-then-used-2 c = below (goal.at.bounds-counts-f-then-used-2 c).Joined-used c.if-used-2.true

pub bounds-up-f : goal.bounds-up-f
bounds-up-f c = below (goal.at.bounds-up-f c).Joined-used c.if-used-2.true

pub offset_bounds-counts-f : goal.offset_bounds-counts-f
offset_bounds-counts-f c = let b = below (goal.at.offset_bounds-counts-f c).Joined-used c.if-used-2.true in record { fits = omega arith }

pub overflow_add-counts : goal.overflow_add-counts
overflow_add-counts c =
    let b = below (goal.at.overflow_add-counts c).Joined-used c.if-used-2.true in
    let room = count_fits c.loop-i.invariant c.read_link-l.result.file.0 b in
    record { fits = omega arith }

pub loop-i-preserved-then-used-2 : goal.loop-i-preserved-then-used-2
loop-i-preserved-then-used-2 c =
    let k = (goal.at.loop-i-preserved-then-used-2 c).Joined-used in
    pass_used c.loop-i.invariant (omega arith) (here _ _ c.read_link-l.ensures) (passes k) (key k) (sym (used_is k) ∙ c.if-used-2.true) (below k c.if-used-2.true)

pub loop-i-preserved : goal.loop-i-preserved
loop-i-preserved c =
    let k = (goal.at.loop-i-preserved c).Joined-used in
    pass_free c.loop-i.invariant (omega arith) (here _ _ c.read_link-l.ensures) (passes k) (key k) (sym (used_is k) ∙ c.if-used-2.false)

pub returns-then-not-names_differ : goal.returns-then-not-names_differ
returns-then-not-names_differ c =
    sym (pass_alike c.loop-i.invariant (omega arith) (sym c.names_differ.ensures ∙ c.if-not-names_differ.true))

pub returns : goal.returns
returns c =
    c.files_linked.ensures
    ∙ sym
    (pass_ends c.loop-i.invariant (omega arith) (files_count c.args.b.now)
    (elim c.else-not-distinct.branch [
      | else-not-distinct-via-then-not-distinct+else-not-names_differ w ↦ sym w.names_differ.ensures ∙ w.if-not-names_differ.false
      | else-not-distinct-via-else-not-distinct w ↦ pass_names c.loop-i.invariant (omega arith) (sym c.distinct.ensures ∙ w.if-not-distinct.false)
    ]))
