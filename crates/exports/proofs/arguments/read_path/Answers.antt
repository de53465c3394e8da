-- The path's units, or units that step 4 refuses like the path.
use Prim.Native.Nat.{◌/◌}
use borrow.Author.Tests.{leb-true, leb-false}
use Rattle.base.{specs.Base.{length, inl, inr}, proofs.Laws.{refl, sym, arith, ⊎_elim}}
use Rattle.exports.specs.Interface.{overlong}
use Rattle.exports.proofs.Read.{unread, room, bytes_enough, path_read}
use Rattle.exports.proofs.arguments.read_path.Goals as goal

pub returns-then-bytes-ne0 : goal.returns-then-bytes-ne0
returns-then-bytes-ne0 c = unread _ _ refl (⊎_elim (λ odd. inl odd) (λ over. inr over.1) c.then-bytes-ne0.either)

pub slice_bounds-units-end : goal.slice_bounds-units-end
slice_bounds-units-end c = omega arith

pub slice_bounds-read_units-end : goal.slice_bounds-read_units-end
slice_bounds-read_units-end c =
    sym (room c.args.bytes.now overlong refl c.if-count-ge-UNITS.false)

pub read_units-requires : goal.read_units-requires
read_units-requires c =
    bytes_enough c.args.bytes.now overlong refl c.if-count-ge-UNITS.false

pub returns : goal.returns
returns c =
    path_read c.args.bytes.now overlong refl
    c.if-count-ge-UNITS.false _ c.if-bytes-ne0.false
    c.read_units.ensures
