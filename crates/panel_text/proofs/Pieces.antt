-- A text that is written piece by piece from a place on: what stands there after each piece (`Put`). And what is printed of a reason, by its case. Assumes
-- nothing.
use mathlib.Core.Path.{◌≡◌, refl, sym, ap, ◌∙◌}
use mathlib.Core.List.{List, [], ◌∷◌, ◌++◌, append-nil, append_assoc}
use Prim.Native.Nat.{ℕ, ◌+◌, ◌≤◌}
use native.Mathlib.Omega.{arith}
use borrow.Author.Tests.{eq-eqb, ne_eqb}
use lib.Dec.{eqb}
use lib.ListN.{length, length-append}
use Rattle.std.specs.Prelude.{Option, Some, None}
use Rattle.numbers.proofs.Choice.{cond_cases}
use Rattle.refusals.specs.declared.Refusal.{Refusal}
use Rattle.refusals.specs.Outcome.{number}
use Rattle.refusals.proofs.Outcomes.{never_0}
use Rattle.why_file.specs.declared.WhyFile.{WhyFile}
use Rattle.why_file.specs.declared.WhyFile.TheVariants.{Refused, Factoring, Singular, Solving}
use Rattle.why_file.specs.Explaining.{explain_file, told_file}
use Rattle.panel_text.specs.Text.{written, refused_text}
use Rattle.panel_text.specs.Why.{
  no_reason_line,
  column_word,
  step_word,
  lower_word,
  upper_word,
  column_part,
  row_part,
  place_text,
  spot_text,
  pass_word,
  column_line,
  stage_line,
  reason_text,
  why_text_of,
}
use Rattle.panel_text.proofs.Writing.{length_written, written_more, length_decimal}

pub record Put (at : ℕ) (s t now : List ℕ) (end : ℕ) : Type 0 where
  pub size : length now ≡ length s
  pub count : end ≡ at + length t
  pub is : now ≡ written at t s

pub put_first : (at : ℕ) (s t now : List ℕ) (end : ℕ) → at + length t ≤ length s → now ≡ written at t s → end ≡ at + length t → Put at s t now end
put_first at s t now end fits e d = record { size = ap length e ∙ length_written at t s fits; count = d; is = e }

pub put_next : (at : ℕ) (s t now : List ℕ) (end : ℕ) → Put at s t now end → (u next : List ℕ) (to : ℕ) → at + length t + length u ≤ length s
    → next ≡ written end u now → to ≡ end + length u → Put at s (t ++ u) next to
put_next at s t now end p u next to fits e d =
    let both : length (t ++ u) ≡ length t + length u = length-append t u in
    let whole = written_more at end t u s now next p.is p.count e (omega arith) in
    put_first at s (t ++ u) next to (omega arith) whole (omega (arith, p.count))

-- from the front, a text under another name
pub put_text : (s t now : List ℕ) (end : ℕ) (text : List ℕ) → Put 0 s t now end → t ≡ text → (end ≡ length text) × (now ≡ written 0 text s)
put_text s t now end text p e = (omega (arith, p.count, ap length e), p.is ∙ ap (λ (l : List ℕ). written 0 l s) e)

pub length_place : (word : List ℕ) (place : ℕ) → length (place_text word place) ≤ length word + 2
unfolding place_text
length_place word place = rw length-append (omega (arith, (length_decimal (place + 1)).1))

pub length_refused : (number : ℕ) → length (refused_text number) ≤ 11
unfolding refused_text
length_refused number = simp length-append (omega (arith, (length_decimal number).1))

pub length_spot : (column row : ℕ) → length (spot_text column row) ≤ 20
unfolding spot_text
length_spot column row = simp length-append (omega (arith, length_place column_part column, length_place row_part row))

-- ---- what each case prints
pub told_none : no_reason_line ≡ reason_text (told_file None)
unfolding reason_text told_file
told_none = refl

pub told_refused : (refusal : Refusal) → refused_text (number refusal) ≡ reason_text (told_file (Some (Refused refusal)))
unfolding reason_text told_file column_line stage_line
told_refused refusal = rw (ne_eqb (number refusal) 0 (never_0 refusal), append-nil, append-nil)

pub pass_lower : (pass : ℕ) → pass ≡ 1 → lower_word ≡ pass_word pass
unfolding pass_word
pass_lower pass e = rw (eq-eqb pass 1 e)

pub pass_upper : (pass : ℕ) → (pass ≡ 1 → ⊥) → upper_word ≡ pass_word pass
unfolding pass_word
pass_upper pass h = rw (ne_eqb pass 1 h)

pub length_pass : (pass : ℕ) → length (pass_word pass) ≡ 19
unfolding pass_word
length_pass pass = cond_cases (λ (w : List ℕ). length w ≡ 19) (eqb pass 1) (λ _. refl) (λ _. refl)

pub told_factoring : (i j r : ℕ) → refused_text 7 ++ place_text step_word i ++ spot_text j r ≡ reason_text (told_file (Some (Factoring i j r)))
unfolding reason_text told_file column_line stage_line
told_factoring i j r =
    append_assoc (refused_text 7) (place_text step_word i) (spot_text j r)
    ∙ ap (λ (t : List ℕ). t ++ (place_text step_word i ++ spot_text j r)) (sym (append-nil (refused_text 7)))

pub told_singular : (j : ℕ) → refused_text 6 ++ place_text column_word j ++ 10 ∷ [] ≡ reason_text (told_file (Some (Singular j)))
unfolding reason_text told_file column_line stage_line
told_singular j = append_assoc (refused_text 6) (place_text column_word j) (10 ∷ []) ∙ sym (append-nil _)

pub told_solving : (pass j r : ℕ) → refused_text 7 ++ pass_word pass ++ spot_text j r ≡ reason_text (told_file (Some (Solving pass j r)))
unfolding reason_text told_file column_line stage_line
told_solving pass j r =
    append_assoc (refused_text 7) (pass_word pass) (spot_text j r)
    ∙ ap (λ (t : List ℕ). t ++ (pass_word pass ++ spot_text j r)) (sym (append-nil (refused_text 7)))

-- what is printed of the case that the answer is
pub case_text : (bytes : List ℕ) (case : Option WhyFile) → told_file case ≡ explain_file bytes → reason_text (told_file case) ≡ why_text_of bytes
unfolding why_text_of
case_text bytes case e = ap reason_text e
