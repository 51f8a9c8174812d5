-- The solve's refusal, or the share. Assumes nothing.
use Rattle.std.proofs.Common.{◌≡◌, false, length, take, ap, ◌∙◌, arith, rules}
use Rattle.finite.specs.Finite.{all_finite}
use Rattle.panel_file.proofs.Reading.{square}
use Rattle.crossing.specs.Below.{packed_in, solution_in}
use Rattle.crossing.proofs.Below.{solution_finite}
use Rattle.crossing.proofs.Loads.{front_done}
use Rattle.season.proofs.Telling.{told_refused, Loads, loads_in, told_share}
use Rattle.season.proofs.tell_crossing.Goals.{In_ok-solve_readings}
use Rattle.season.proofs.tell_crossing.Goals as goal

-- past the solve there are loads, which stand in front of their store
loads : (c : In_ok-solve_readings) → let g = c.args in Loads (solution_in false g.matrix.now g.swaps.now g.told g.readings.now)
loads c = loads_in _ _ c.in_ok-solve_readings.ensures.value

front : (c : In_ok-solve_readings) → let n = c.args.told.rows in (length (loads c).x ≡ n) × (take n c.solve_readings.new.loads ≡ (loads c).x)
front c = front_done _ _ (loads c).x _ _ (loads c).is c.solve_readings.ensures.loads_after c.requires.1 (search rules)

pub returns-in_err-solve_readings : goal.returns-in_err-solve_readings
returns-in_err-solve_readings c = told_refused _ _ _ _ c.in_err-solve_readings.ensures.value c.from_residual.ensures.1

pub overflow_mul-entries : goal.overflow_mul-entries
overflow_mul-entries c = omega (arith, square c.args.told.rows 64 c.requires.1)

pub listed-requires : goal.listed-requires
listed-requires c =
    let g = c.args in
    let f = front (goal.at.listed-requires c).In_ok-solve_readings in
    let p = packed_in g.matrix.now g.swaps.now g.told in
    let numbers = solution_finite false p (take g.told.rows g.readings.now) _ (loads (goal.at.listed-requires c).In_ok-solve_readings).is in
    (c.requires.0, c.requires.1, ap length f.1 ∙ f.0, ap all_finite f.1 ∙ numbers)

pub returns : goal.returns
returns c =
    let g = c.args in
    let past = (goal.at.returns c).In_ok-solve_readings in
    told_share _ (loads past) (packed_in g.matrix.now g.swaps.now g.told) _ _ c.band.result (front past).1 c.listed.ensures c.band.ensures.value
