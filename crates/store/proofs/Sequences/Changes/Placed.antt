-- Whatever an open creates, its placing leaves consistent names.
use Rattle.base.{specs.Base.Namespace, proofs.Laws.Ends}
use Rattle.store.proofs.Sequences.{Facts.{NamespaceConsistent, CreationFits, PlacedWell, Early}, Changes.{Stream.stream_placed_lem, File.file_placed}}
use Rattle.store.specs.{Prepare.{Creation, new_stream, new_file}, Complete.place}

pub placed_well : (ns : Namespace) → NamespaceConsistent ns → (c : Creation) → CreationFits ns c
    → Ends Early (PlacedWell ns) (place ns c)
placed_well ns h (new_stream f leaf a) fit = stream_placed_lem ns f leaf a h fit
placed_well ns h (new_file dir leaf file) fit = file_placed ns dir leaf file h fit
