-- What the effect of a close stands for, and the tables after it.
use Rattle.base.specs.Base.{Tables}
use Rattle.store.specs.{Close.{CloseEffect, unchanged, file_marked, file_removed, stream_marked, stream_removed}, Store.volume_after}
use Rattle.settle.specs.declared.CloseEffect.{CloseEffect as EffectFound}
use Rattle.settle.specs.declared.CloseEffect.TheVariants as Found

unfoldable pub as_effect : EffectFound → CloseEffect
as_effect Found.Unchanged = unchanged
as_effect (Found.FileMarked f) = file_marked f
as_effect (Found.FileRemoved f) = file_removed f
as_effect (Found.StreamMarked s) = stream_marked s
as_effect (Found.StreamRemoved s) = stream_removed s

unfoldable pub tables_after : CloseEffect → Tables → Tables
tables_after e t = record { volume = volume_after e t.volume; opens = t.opens }
