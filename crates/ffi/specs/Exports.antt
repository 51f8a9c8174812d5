-- What an exported call writes through a pointer, beside what the call that it stands for answers and leaves.
use Rattle.std.specs.Prelude.{cond, ℕ, eqb}
use Rattle.refusals.specs.Outcome.{Outcome, done, refused}

-- the answer's value, where `was` stood before; refused, it is as it was
abbrev pub value_after : {A : Type 0} → Outcome A → A → A
value_after (done x) was = x
value_after (refused number) was = was

-- the same of a result: refused with 7 it is zero, "result slices +0.0"
abbrev pub result_after : {A : Type 0} → A → Outcome A → A → A
result_after zero (done x) was = x
result_after zero (refused number) was = cond (eqb number 7) zero was

-- the number of pads; refused, there are none
abbrev pub pads_in : Outcome (ℕ × ℕ) → ℕ
pads_in (done t) = t.0
pads_in (refused number) = 0

-- the number of listed pads; refused, there are none
abbrev pub count_in : Outcome ℕ → ℕ
count_in (done count) = count
count_in (refused number) = 0
