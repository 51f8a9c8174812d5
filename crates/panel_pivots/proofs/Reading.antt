-- What the reader gave, in stores of the greatest size: the file's matrix in front of its store; or a refusal that the file's tests give. By its contract.
-- Assumes nothing.
use mathlib.Core.Path.{◌≡◌, sym, ap, ◌∙◌}
use mathlib.Core.List.{List}
use Prim.Native.Nat.{ℕ}
use borrow.Author.Tests.{eq-eqb}
use lib.ListN.{replicate, length-replicate}
use Rattle.numbers.specs.Numbers.{zero64}
use Rattle.numbers.specs.Column.{Column, zeros}
use Rattle.numbers.proofs.Choice.{and_both}
use Rattle.std.proofs.Common.{Result, Ok, Err}
use Rattle.refusals.specs.declared.Refusal.{Refusal}
use Rattle.refusals.specs.Outcome.{Call, number, outcome}
use Rattle.refusals.proofs.Outcomes.{tested_none}
use Rattle.refusals.proofs.Cases.{never_both}
use Rattle.panel_file.specs.File.{pads_of}
use Rattle.panel_file.specs.Reading.{Stores, stores, file_refusal, reading}
use Rattle.panel_file.proofs.Reading.{reading_fit}
use Rattle.crossing.proofs.Factors.{Read, file_read}

abbrev empty : Stores
empty = stores (zeros 4096) (zeros 64)

module _ (bytes : List ℕ) (made : Result ℕ Refusal) where
  pub pads_read : (M R : Column)
      → (outcome made ≡ (reading bytes empty).answer) × ((M ≡ (reading bytes empty).left.matrix) × (R ≡ (reading bytes empty).left.readings))
      → (k : ℕ) → made ≡ Ok k → Read bytes (zeros 4096) (zeros 64) M R k
  pads_read M R e k t =
      file_read bytes (zeros 4096) (zeros 64) (replicate 128 0) (length-replicate 4096 zero64) (length-replicate 64 zero64) M R e.1.0 e.1.1 k
      (sym (ap outcome t) ∙ e.0)

  pub never_refused : outcome made ≡ (reading bytes empty).answer → (k : Refusal) → made ≡ Err k → file_refusal bytes ≡ 0 → ⊥
  never_refused m k t z =
      let fit = and_both _ _ (eq-eqb _ _ (length-replicate 4096 zero64)) (eq-eqb _ _ (length-replicate 64 zero64)) in
      let is = reading_fit bytes empty fit ∙ tested_none (file_refusal bytes) _ _ z in
      never_both (pads_of bytes) (number k) (sym (m ∙ ap (λ (o : Call ℕ Stores). o.answer) is) ∙ ap outcome t)
