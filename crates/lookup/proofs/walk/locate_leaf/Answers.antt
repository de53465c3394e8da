-- Each end of the walk, as the place that it leads to.
use Rattle.std.proofs.lemmas.Result.{err_from_is_err_and}
use Rattle.base.{specs.Base.{ℕ, ◌≡◌, Bool, List, some, root, LinkNo, FileNo, Volume, namespace, Checked, passed, ◌>>=◌, ◌>>◌, refuse_if, as_checked, DeletePending}, proofs.Laws.{sym, ap, test_refuses, ◌∙◌, empty_length}}
use Rattle.components.specs.Positions.{parents_of, part_of}
use Rattle.layout.specs.Layout.{decode}
use Rattle.paths.specs.{Positions.{as_leaf}, declared.LeafParts.LeafParts}
use Rattle.tables.specs.Tables.{file_at, link_at}
use Rattle.lookup.proofs.Walking.{place_from, root-leads, walk_leads}
use Rattle.lookup.specs.{Lookup.{found, locate}, Answers.{path_to, as_place, walked_from}, declared.Walked.{Walked, TheVariants.Link}}
use Rattle.lookup.proofs.walk.locate_leaf.Goals as goal
use Rattle.lookup.proofs.walk.locate_leaf.Goals.{After-walk_path}

-- the place that the walk leads to, by where it ends
leads : {d : Checked Walked} (w : After-walk_path) →
    let s = w.args in
    let ns = namespace (decode s.b.now).volume in
    d ≡ walked_from ns s.fold root (parents_of s.path.now s.leaf.file) (part_of s.path.now s.leaf.file)
    → (d >>= place_from ns (as_leaf s.path.now s.leaf)) ≡ locate ns s.fold (path_to s.path.now s.leaf)
unfolding as_leaf
leads w walk =
    let s = w.args in
    rw walk
    (walk_leads (namespace (decode s.b.now).volume) s.fold (parents_of s.path.now s.leaf.file) (as_leaf s.path.now s.leaf)
    (rw (← w.part_of.ensures, ← empty_length) (sym w.is_empty.ensures ∙ w.if-is_empty.false)))

-- the last component's link, with its file's mark as it is
at_link : (v : Volume) (path : List ℕ) (leaf : LeafParts) (fold : Bool) (l : LinkNo) {f : FileNo} {marked : Bool}
    → marked ≡ (file_at v.files f).delete_pending → f ≡ (link_at v.links l).file
    → place_from (namespace v) (as_leaf path leaf) (Link l) ≡ locate (namespace v) fold (path_to path leaf)
    → refuse_if marked DeletePending >> passed (found (record { link = some l; file = f })) ≡ locate (namespace v) fold (path_to path leaf)
unfolding place_from namespace
at_link v path leaf fold l m f e = rw (m, f) e

pub returns-then-is_empty : goal.returns-then-is_empty
unfolding as_checked as_place as_leaf
returns-then-is_empty c =
    let s = c.args in
    root-leads (namespace (decode s.b.now).volume) s.fold (parents_of s.path.now s.leaf.file) (as_leaf s.path.now s.leaf)
    (rw (← c.part_of.ensures, ← empty_length) (sym c.is_empty.ensures ∙ c.if-is_empty.true))

pub returns-in_err-link : goal.returns-in_err-link
unfolding as_checked ◌>>=◌
returns-in_err-link c =
    let w = (goal.at.returns-in_err-link c).After-walk_path in
    let q = err_from_is_err_and c.from_residual.result c.from_residual.ensures.1 in
    rw (q.1, q.2) (leads w c.in_err-link.ensures)

pub returns-then-read_file_mark : goal.returns-then-read_file_mark
unfolding as_checked ◌>>=◌
returns-then-read_file_mark c =
    let w = (goal.at.returns-then-read_file_mark c).After-walk_path in
    sym (test_refuses _ _ c.if-read_file_mark.true)
    ∙ at_link _ _ _ _ _ c.read_file_mark.ensures c.read_link_file-file.ensures
    (leads w (sym (ap (λ (e : Walked). passed e) c.in-Link.is) ∙ c.in_ok-link.ensures))

pub returns-else-read_file_mark : goal.returns-else-read_file_mark
unfolding as_checked as_place refuse_if ◌>>=◌ ◌>>◌
returns-else-read_file_mark c =
    let s = c.args in
    let w = (goal.at.returns-else-read_file_mark c).After-walk_path in
    rw c.if-read_file_mark.false at (at_link (decode s.b.now).volume s.path.now s.leaf s.fold c.in-Link.link c.read_file_mark.ensures c.read_link_file-file.ensures
    (leads w (sym (ap (λ (e : Walked). passed e) c.in-Link.is) ∙ c.in_ok-link.ensures)))

pub returns-in-Missing : goal.returns-in-Missing
unfolding as_checked as_place place_from ◌>>=◌
returns-in-Missing c =
    leads (goal.at.returns-in-Missing c).After-walk_path
    (sym (ap (λ (e : Walked). passed e) c.in-Missing.is) ∙ c.in_ok-link.ensures)
