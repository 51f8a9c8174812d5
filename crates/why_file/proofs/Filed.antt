-- A file's reason as the code puts it together: by what `factor_file` and `read` gave. By the cases of their answers. Assumes nothing.
use mathlib.Core.Path.{◌≡◌, refl, sym, ap, ap₂, ◌∙◌}
use mathlib.Core.List.{List, ◌∷◌}
use Prim.Native.Nat.{ℕ, zero, suc, ◌*◌, ◌≤◌}
use native.Mathlib.Nat.{le_of_suc-le-suc, not-suc-le-zero}
use lib.ListN.{take, replicate, length-replicate}
use Rattle.numbers.specs.Numbers.{zero64}
use Rattle.numbers.specs.Column.{Column, zeros}
use Rattle.std.proofs.Common.{Option as Maybe, Some}
use Rattle.refusals.specs.declared.Refusal.{Refusal}
use Rattle.refusals.specs.Outcome.{Outcome, done, refused, number, tested, Call}
use Rattle.refusals.proofs.Outcomes.{tested_none, tested_some, tested_map}
use Rattle.refusals.proofs.Cases.{never_both, tested_refused}
use Rattle.factors.specs.declared.Record.{Record}
use Rattle.panel_file.specs.File.{pads_of, readings_of}
use Rattle.panel_file.specs.Reading.{file_refusal, Stores, stores, reading}
use Rattle.panel_file.proofs.Reading.{reading_fit}
use Rattle.crossing.specs.Below.{Packed, packed_in}
use Rattle.crossing.specs.Factors.{factors_in}
use Rattle.crossing.proofs.Factors.{Read, file_read, Ready}
use Rattle.why.specs.Why.{told_number, explain_factoring}
use Rattle.why_file.specs.declared.WhyFile.{WhyFile}
use Rattle.why_file.specs.declared.WhyFile.TheVariants.{Refused}
use Rattle.why_file.specs.Explaining.{in_factoring, told_in, explain_factors, explain_loads, explained_by, explain_file, told_file}

pub zeros_front : (k m : ℕ) → k ≤ m → take k (zeros m) ≡ zeros k
zeros_front zero m h = refl
zeros_front (suc k) zero h = absurd (not-suc-le-zero h)
zeros_front (suc k) (suc m) h = ap (λ (l : Column). zero64 ∷ l) (zeros_front k m (le_of_suc-le-suc h))

module _ (bytes : List ℕ) where
  -- ---- the file has factors, which stand in front of their store
  pub by_loads : (why : Maybe WhyFile) (M R : Column) (S : List ℕ) (told : Record) → Ready bytes M R S told
      → told_file why ≡ explain_loads (packed_in M S told) (take told.rows R) → told_file why ≡ explain_file bytes
  unfolding explain_file explained_by
  by_loads why M R S told w e =
      e ∙ ap (explain_loads (packed_in M S told)) w.is_readings
      ∙ ap (λ (o : Outcome Packed). explained_by o (explain_factors bytes) (λ f. explain_loads f (readings_of (pads_of bytes) bytes))) (sym w.factors)

  -- ---- it has none
  pub by_factors : (why : Maybe WhyFile) (k : ℕ) → factors_in bytes ≡ refused k → told_file why ≡ explain_factors bytes → told_file why ≡ explain_file bytes
  unfolding explain_file explained_by
  by_factors why k e d =
      d ∙ ap (λ (o : Outcome Packed). explained_by o (explain_factors bytes) (λ f. explain_loads f (readings_of (pads_of bytes) bytes))) (sym e)

  -- ---- the file as it is read into stores that hold zeros
  abbrev made : Call ℕ Stores
  made = reading bytes (stores (zeros 4096) (zeros 64))

  -- a good file: why its matrix is not factored
  module _ (M R : Column) (em : M ≡ made.left.matrix) (er : R ≡ made.left.readings) (k : ℕ) (t : done k ≡ made.answer) where
    pub was_read : Read bytes (zeros 4096) (zeros 64) M R k
    was_read =
        file_read bytes (zeros 4096) (zeros 64) (replicate 128 0) (length-replicate 4096 zero64) (length-replicate 64 zero64) M R em er k t

    pub by_matrix : (why : Maybe WhyFile)
        → told_file why ≡ told_in in_factoring (explain_factoring (take (k * k) M) k k (zeros (k * k)) (replicate 128 0)) → told_file why
        ≡ explain_factors bytes
    unfolding explain_factors
    by_matrix why e =
        e ∙ ap₂ (λ (j : ℕ) (a : Column). told_in in_factoring (explain_factoring a j j (zeros (j * j)) (replicate 128 0))) was_read.pads was_read.is_matrix_lem
        ∙ sym (tested_none (file_refusal bytes) told_number _ was_read.none)

  -- a bad one is refused by the reader
  pub by_reader : (r : Refusal) → refused (number r) ≡ made.answer → told_file (Some (Refused r)) ≡ explain_factors bytes
  unfolding explain_factors told_file
  by_reader r t =
      let told : refused (number r) ≡ tested (file_refusal bytes) refused (done (pads_of bytes)) =
      t ∙ ap (λ (o : Call ℕ Stores). o.answer) (reading_fit bytes (stores (zeros 4096) (zeros 64)) refl)
      ∙ tested_map (λ (o : Call ℕ Stores). o.answer) (file_refusal bytes) _ _ in
      tested_refused (file_refusal bytes) (done (pads_of bytes)) (number r) (sym told) (λ z e. never_both (pads_of bytes) (number r) e)
      (λ some e. ap told_number (sym e) ∙ sym (tested_some (file_refusal bytes) told_number _ some))
