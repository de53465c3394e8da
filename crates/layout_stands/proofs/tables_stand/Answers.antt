-- The tests in the order of the definition.
use Rattle.base.{proofs.Laws.{arith, eq-eqb}, specs.Base.{ℕ, ◌≡◌, ◌<◌, ◌&&◌, List, length, drop, file_slots, stream_slots, open_slots}}
use borrow.Author.Tests.{lt-ltb, le-ltb}
use Rattle.layout.{specs.{Kinds.marks, Records.{file_codec, stream_codec, open_codec}, Layout.{files_at, streams_at, opens_at, files_codec, streams_codec, tables_size, stands_for_tables}}, proofs.Stands.tables_stand}
use Rattle.codecs.specs.Codec.{row_stands}
use Rattle.little_endian.specs.LittleEndian.{from_bytes, part}
use Rattle.layout_stands.proofs.tables_stand.Goals as goal

-- bytes of the right number and read-only mark stand when their records do
begins : (b : List ℕ) → length b ≡ tables_size → from_bytes (part b 0 2) < marks
    → stands_for_tables b
    ≡ (row_stands file_codec file_slots (part b files_at files_codec.size)
    && (row_stands stream_codec stream_slots (part b streams_at streams_codec.size) && row_stands open_codec open_slots (drop opens_at b)))
begins b long mark = rw (tables_stand b, eq-eqb (length b) tables_size long, lt-ltb (from_bytes (part b 0 2)) marks mark)

pub returns-then-read_u16-gt1 : goal.returns-then-read_u16-gt1
returns-then-read_u16-gt1 c =
    let b = c.args.b.now in
    rw (tables_stand b, eq-eqb (length b) tables_size (omega arith), le-ltb (from_bytes (part b 0 2)) marks (omega arith))

pub returns-then-not-files_stand : goal.returns-then-not-files_stand
returns-then-not-files_stand c =
    let b = c.args.b.now in
    rw (begins b (omega arith) (omega arith)) (rw (← c.files_stand.ensures, c.if-not-files_stand.true))

pub returns-then-not-streams_stand : goal.returns-then-not-streams_stand
returns-then-not-streams_stand c =
    let b = c.args.b.now in
    rw (begins b (omega arith) (omega arith)) (rw (
      ← c.files_stand.ensures,
      c.if-not-files_stand.false,
      ← c.streams_stand.ensures,
      c.if-not-streams_stand.true,
    ))

pub returns : goal.returns
returns c =
    let b = c.args.b.now in
    rw (begins b (omega arith) (omega arith)) (rw (
      ← c.files_stand.ensures,
      c.if-not-files_stand.false,
      ← c.streams_stand.ensures,
      c.if-not-streams_stand.false,
    ) c.opens_stand.ensures)
