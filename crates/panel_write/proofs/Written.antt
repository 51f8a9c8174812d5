-- What lines and a text come to, by what was found of them; and that the bytes of a file fit. By the cases. Assumes nothing.
use mathlib.Core.Path.{◌≡◌, refl, sym, ap, subst, ◌∙◌}
use mathlib.Core.Bool.{false}
use mathlib.Core.List.{List}
use Prim.Native.Nat.{ℕ, ◌+◌, ◌-◌, ◌*◌, ◌≤◌}
use native.Mathlib.Omega.{arith}
use lib.ListN.{length, take, drop, length-drop}
use lib.Seq.{take_all}
use Rattle.numbers.specs.Column.{Column}
use Rattle.std.proofs.Common.{Ok, Err}
use Rattle.refusals.specs.declared.Refusal.TheVariants.{Length}
use Rattle.refusals.specs.Outcome.{done, Call}
use Rattle.refusals.specs.Refusals.{outside}
use Rattle.refusals.proofs.Cases.{done_same, never_both, tested_done}
use Rattle.refusals.proofs.Tests.{inside}
use Rattle.panel_file.specs.File.{file_length}
use Rattle.panel_file_writer.specs.Writing.{Writing, written, writing_refusal}
use Rattle.panel_file_writer.proofs.Writing.{small}
use Rattle.panel_write.specs.Text.{AreLines, numbers_in, LinesWritten, whole, other, head_in, TextWritten, size, lines}

-- the lines for n pads, m and r numbers being as many as the matrix and the readings have
module _ (n : ℕ) (ls out : List ℕ) (m r : ℕ) (asks : length ls ≡ 17 * (n * n + n)) (is_m : m ≡ n * n) (is-r : r ≡ n) where
  pub lines_whole : (M R : Column) (made : Call ℕ (List ℕ)) → AreLines ls 0 m → M ≡ numbers_in ls 0 m → AreLines ls (n * n) r → R ≡ numbers_in ls (n * n) r
      → Writing n M R out made → LinesWritten n ls out made
  lines_whole M R made a e b f w =
      whole (asks, (subst (AreLines ls 0) is_m a, subst (AreLines ls (n * n)) is-r b))
      (rw (e ∙ ap (numbers_in ls 0) is_m, f ∙ ap (numbers_in ls (n * n)) is-r) at w)

  pub lines_refused : (AreLines ls 0 m → AreLines ls (n * n) r → ⊥) → LinesWritten n ls out (written (Err Length) out)
  lines_refused none =
      other (λ l. none (subst (AreLines ls 0) (sym is_m) l.1.0) (subst (AreLines ls (n * n)) (sym is-r) l.1.1)) refl

-- the lines behind the first, which begin at a place within the text
pub text_lines : (text out : List ℕ) (n at : ℕ) (made : Call ℕ (List ℕ)) → n ≡ (head_in text).0 → at ≡ (head_in text).1 → outside 1 n ≡ false
    → LinesWritten n (take (length text - at) (drop at text)) out made → TextWritten text out made
text_lines text out n at made is-n is_at t w =
    let all : take (length text - at) (drop at text) ≡ drop at text = take_all (length text - at) (drop at text) (omega (arith, length-drop at text)) in
    lines (rw is-n at t) (rw (all, is-n, is_at) at w)

-- ---- how many bytes there are

writing_count : (n : ℕ) (M R : Column) (out left : List ℕ) (count : ℕ) → Writing n M R out (written (Ok count) left) → count ≡ file_length n
writing_count n M R out left count w =
    sym (done_same _ count (tested_done (writing_refusal n M R (length out)) (done (file_length n)) count (sym w.answers)).1)

pub text_fits : (text out left : List ℕ) (count : ℕ) → TextWritten text out (written (Ok count) left) → count ≤ 33286
text_fits text out left count (size _ e) = absurd (never_both count 1 (ap (λ (m : Call ℕ (List ℕ)). m.answer) e))
text_fits text out left count (lines _ (other _ e)) = absurd (never_both count 3 (ap (λ (m : Call ℕ (List ℕ)). m.answer) e))
text_fits text out left count (lines t (whole _ w)) =
    let n = (head_in text).0 in
    let few = small n (inside 1 n t) in
    let is = writing_count n _ _ out left count w in
    omega (arith, few.0, few.1, is)
