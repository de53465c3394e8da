use Rattle.base.{specs.Base.{◌+◌, ◌*◌, ◌≡◌, file_name_limit, length, get_or}, proofs.Laws.{arith, le-leb, lt-leb}}
use Rattle.name_tests.proofs.{Odds.{counted, odds, odds_stored, counted_next, odds_next, counted_end, odds_end, some_bound}}
use Rattle.name_tests.proofs.well_stored.Goals as goal

pub returns-then-name-gt-FILE_NAME_LIMIT : goal.returns-then-name-gt-FILE_NAME_LIMIT
returns-then-name-gt-FILE_NAME_LIMIT c = rw (lt-leb (length c.args.name.now) file_name_limit (omega arith))

pub loop-i-init : goal.loop-i-init
loop-i-init c = (omega arith, omega arith, omega arith, omega arith, omega arith)

pub loop-i-preserved : goal.loop-i-preserved
loop-i-preserved c =
    let n = c.args.name.now in
    let u = get_or n c.loop-i.i 0 in (
      omega arith,
      omega (arith, c.if_some-count.ensures, some_bound u 1),
      omega (arith, c.if_some-sum.ensures, some_bound u (2 * c.loop-i.i + 1)),
      omega (arith, c.if_some-count.ensures, counted_next n c.loop-i.i (omega arith)),
      omega (arith, c.if_some-sum.ensures, odds_next n c.loop-i.i (omega arith)),
    )

pub returns : goal.returns
returns c =
    let n = c.args.name.now in
    let k : counted n ≡ c.loop-i.count = omega (arith, counted_end n c.loop-i.i (omega arith)) in
    let s : odds 0 n ≡ c.loop-i.sum = omega (arith, odds_end n c.loop-i.i (omega arith)) in
    rw (← k, ← s, le-leb (length n) file_name_limit (omega arith)) (odds_stored n)
