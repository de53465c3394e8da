use Rattle.base.{specs.Base.{◌≡◌, file_name_limit, length, get_or}, proofs.Laws.{arith, eq-eqb, ne_eqb}}
use Rattle.name_keys.proofs.{Weights.{weighed_next, weighed_end}}
use Rattle.name_keys.specs.NameKeys.{low_weights, high_weights, weighed, name_key, stored_key}
use Rattle.name_keys.proofs.name_key.Goals as goal
use Rattle.name_keys.proofs.name_key.Goals.{After-weigh-sum}

pub returns-then-name-ne-FILE_NAME_LIMIT : goal.returns-then-name-ne-FILE_NAME_LIMIT
unfolding stored_key
returns-then-name-ne-FILE_NAME_LIMIT c = rw (ne_eqb (length c.args.name.now) file_name_limit c.if-name-ne-FILE_NAME_LIMIT.true)

pub loop-i-init : goal.loop-i-init
loop-i-init c = (omega arith, omega arith, omega arith)

-- the tables are the weights
weighs : (c : After-weigh-sum) →
    let i = c.loop-i.i in
    c.weigh-sum.result ≡ weighed (get_or c.args.name.now i 0) (get_or low_weights i 0) (get_or high_weights i 0)
unfolding low_weights high_weights
weighs c = c.weigh-sum.ensures.0

pub loop-i-preserved : goal.loop-i-preserved
loop-i-preserved c =
    let n = c.args.name.now in (
      omega arith,
      omega (arith, c.weigh-sum.ensures.1),
      omega (arith, weighs c, weighed_next n c.loop-i.i (omega arith)),
    )

pub returns : goal.returns
unfolding name_key stored_key
returns c =
    let n = c.args.name.now in
    rw (stored_key, eq-eqb (length n) file_name_limit c.if-name-ne-FILE_NAME_LIMIT.false) (omega (arith, weighed_end n c.loop-i.i (omega arith)))
