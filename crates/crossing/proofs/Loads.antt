-- What is known of a solve's numbers that stand in front of their slice, and of a file's loads. By the case of the outcome. Assumes nothing.
use mathlib.Core.Path.{◌≡◌, ap, ◌∙◌}
use mathlib.Core.Bool.{true, false}
use mathlib.Core.List.{List, ◌++◌}
use Prim.Native.Nat.{ℕ, ◌+◌, ◌≤◌}
use native.Mathlib.Omega.{arith}
use lib.ListN.{length, take, drop, length-append, length-drop}
use lib.Seq.{take_at}
use Rattle.numbers.specs.Column.{Column}
use Rattle.finite.specs.Finite.{all_finite}
use Rattle.refusals.specs.Outcome.{Outcome, done, refused}
use Rattle.refusals.proofs.Cases.{then_done, then_refused}
use Rattle.panel_file.specs.File.{pads_of, readings_of}
use Rattle.crossing.specs.Below.{solution_by}
use Rattle.crossing.specs.Factors.{factors_in, loads_of, settled_in, fronted}
use Rattle.crossing.proofs.Below.{solution_finite, solution_few}
use Rattle.crossing.proofs.Factors.{factors_few, factors_size}

pub front_done : (n : ℕ) (o : Outcome Column) (x was now : Column) → o ≡ done x → now ≡ fronted n o was → n ≤ length was
    → length now ≡ length was → (length x ≡ n) × (take n now ≡ x)
unfolding settled_in
front_done n o x was now e f h l =
    let is : now ≡ x ++ drop n was = f ∙ ap (λ (p : Outcome Column). fronted n p was) e in
    let lengths : length now ≡ length x + length (drop n was) = ap length is ∙ length-append x (drop n was) in
    let size : length x ≡ n = omega (arith, length-drop n was) in
    (size, ap (take n) is ∙ take_at x (drop n was) n size)

module _ (bytes : List ℕ) where
  abbrev n : ℕ
  n = pads_of bytes

  -- what the loads are known by
  pub loads_known : (x : Column) → loads_of bytes ≡ done x → (1 ≤ n) × (n ≤ 64) × (all_finite x ≡ true)
  unfolding loads_of
  loads_known x e =
      then_done (factors_in bytes) (λ f. solution_by false f (readings_of n bytes)) x e
      (λ p d f. let size = factors_size bytes p d in (size.0, size.1, solution_finite false p (readings_of n bytes) x f))

  pub loads_few : (k : ℕ) → loads_of bytes ≡ refused k → k ≤ 9
  unfolding loads_of
  loads_few k e =
      then_refused (factors_in bytes) (λ f. solution_by false f (readings_of n bytes)) k e (factors_few bytes k)
      (λ p d f. solution_few false p (readings_of n bytes) k f)
