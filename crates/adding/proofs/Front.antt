-- Factoring and its slices: which slices it is to fill does not matter, and where the factors of a whole matrix are finite, those of its front are.
-- By the tests, and by induction on the columns behind the front. Assumes nothing.
use mathlib.Core.Path.{◌≡◌, sym, ap, subst, ◌∙◌}
use mathlib.Core.Bool.{true}
use mathlib.Core.List.{List, [], ◌∷◌, ◌++◌, append_assoc, append-nil}
use Prim.Native.Nat.{ℕ, ◌*◌}
use native.Mathlib.Omega.{arith}
use lib.ListN.{length, length-append, get_or-append}
use lib.Seq.{get_or-append_seam}
use Rattle.numbers.specs.Column.{Column}
use Rattle.finite.specs.Finite.{all_finite}
use Rattle.numbers.proofs.Choice.{and_first}
use Rattle.store.specs.Columns.{flat, HasRows}
use Rattle.store.specs.Steps.{Matrix}
use Rattle.store.proofs.Columns.{is_matrix_lem}
use Rattle.refusals.specs.Outcome.{number_of}
use Rattle.factors.specs.Factors.{Factors}
use Rattle.elimination.specs.Elimination.{eliminate}
use Rattle.lu.specs.Factoring.{settled, factoring}
use Rattle.adding.proofs.Afresh.{finite_added}
use Rattle.lu.proofs.Told.{passes, worked}
use Rattle.lu.proofs.Shape.{no_refusal, ok, accepted_is}
use Rattle.elimination.proofs.Widen.{widened}

-- ---- which slices factoring is to fill does not matter
pub same_outcome : (m n : ℕ) (a out : Column) (store : List ℕ) → number_of (factoring a m n out store).answer ≡ 0 → (out' : Column) (store' : List ℕ)
    → length out' ≡ n * m → length store' ≡ 128 → factoring a m n out' store' ≡ factoring a m n out store
unfolding settled
same_outcome m n a out store good out' store' lo ls =
    let none = no_refusal m n a out store good in
    let p = ok m n a out store none in
    let acc = accepted_is m n a out store none good in
    let slice = is_matrix_lem m n out' p.rows.at_most p.cols.at_most lo in
    let same = passes m n a out' store' (record { rows = p.rows; cols = p.cols; matrix = p.matrix; slice = slice; room = ls; numbers = p.numbers }) in
    worked m n a out' store' same ∙ rw acc.1 (sym acc.0)

-- ---- the front of a matrix
rows_front : (m : ℕ) (cs ds : Matrix) → HasRows m (cs ++ ds) → HasRows m cs
rows_front m cs ds rows j h = rw (get_or-append cs ds [] j h) at (rows j (omega (arith, length-append cs ds)))

-- where the factors of the whole are finite, those of its front are
pub finite_front : (m : ℕ) (cs ds : Matrix) → HasRows m (cs ++ ds) → all_finite (flat (eliminate m (cs ++ ds)).columns) ≡ true
    → all_finite (flat (eliminate m cs).columns) ≡ true
finite_front m cs [] rows fin = ap (λ (a : Matrix). all_finite (flat (eliminate m a).columns)) (sym (append-nil cs)) ∙ fin
finite_front m cs (d ∷ ds) rows fin =
    let whole : cs ++ d ∷ ds ≡ (cs ++ d ∷ []) ++ ds = sym (append_assoc cs (d ∷ []) ds) in
    let len : length d ≡ m = rw (get_or-append_seam cs d ds []) at (rows (length cs) (omega (arith, length-append cs (d ∷ ds)))) in
    let one : all_finite (flat (eliminate m (cs ++ d ∷ [])).columns) ≡ true =
    finite_front m (cs ++ d ∷ []) ds (subst (λ (a : Matrix). HasRows m a) whole rows)
    (ap (λ (a : Matrix). all_finite (flat (eliminate m a).columns)) (sym whole) ∙ fin) in
    let f = eliminate m cs in
    and_first (all_finite (flat f.columns)) _
    (sym (ap (λ (g : Factors). all_finite (flat g.columns)) (widened m cs d (rows_front m cs (d ∷ ds) rows)) ∙ finite_added m f d len) ∙ one)
