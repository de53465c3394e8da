-- What is written on cleared bytes makes those of fresh tables.
use Rattle.base.proofs.Laws.{arith}
use Rattle.format.proofs.{Written.written}
use Rattle.format.proofs.write_fresh.Goals as goal

pub returns : goal.returns
returns c =
    let stream = c in
    let file = stream in
    let next = file in
    let mark = next in
    let clear = mark in
    let start = clear in
    written start.args.masks start.args.read_only start.args.b.now _ _ _ _ _ (omega arith) clear.clear.ensures
    mark.write_mark.ensures
    next.write_next.ensures
    (rw file.root_file.ensures at file.write_file.ensures)
    (rw stream.root_stream.ensures at stream.write_stream.ensures)
