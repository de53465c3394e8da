-- What the audit says of lent bytes (the paper's soundness): they stand for tables, and those are consistent.
use Rattle.std.specs.Prelude.{◌&&◌}
use Rattle.base.specs.Base.{ℕ, Bool, List}
use Rattle.consistency.specs.Test.{consistent}
use Rattle.layout.specs.Layout.{decode, stands_for_tables}

unfoldable pub sound_bytes : List ℕ → Bool
sound_bytes bs = stands_for_tables bs && consistent (decode bs).volume (decode bs).opens
