-- What the walk over the opens decides: no live open fails the share check from the counts that its stream has, less its own
-- part. proofs/ shows that this is `conflicts_test` where the counts are true.
use Rattle.base.specs.Base.{Bool, not, List, all, Stream, Open}
use Rattle.sharing.specs.Others.{others_check}
use Rattle.tables.specs.Tables.{stream_at, live}

-- an open passes, with the counts of its stream
abbrev pub agrees_with_others : List Stream → Open → Bool
agrees_with_others ss o = not (others_check (stream_at ss o.stream).counts o)

unfoldable pub others_test : List Stream → List Open → Bool
others_test ss os = all (agrees_with_others ss) (live os)
