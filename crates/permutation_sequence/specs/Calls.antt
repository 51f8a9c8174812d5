-- What each public call does on every input: document 01, "Sizes" and "Refusal numbers".
use Rattle.std.specs.Prelude.{Bool, not, cond, ◌&&◌, ◌||◌, List, [], ◌∷◌, ℕ, ◌%◌, eqb, length, Float}
use Rattle.std.specs.Float.Ieee.{neg}
use Rattle.numbers.specs.Numbers.{one64}
use Rattle.numbers.specs.Column.{Column}
use Rattle.finite.specs.Finite.{all_finite}
use Rattle.refusals.specs.Outcome.{done, first_holding, tested, Call, leaving}
use Rattle.refusals.specs.Refusals.{outside}
use Rattle.store.specs.Columns.{is_matrix, on_columns}
use Rattle.store.specs.Steps.{Matrix, swap_in_all, columns_swapped}
use Rattle.swap_list.specs.SwapList.{pairs_of, good_list}
use Rattle.exchanges.specs.Permute.{permuted_by, in_order}

-- ---- permuting an m by n matrix

-- the refusals of plain permuting, in their order; `bound` is the row count, for columns the column count
unfoldable pub permuting_refusal : Column → ℕ → ℕ → List ℕ → ℕ → ℕ → ℕ
permuting_refusal s m n store pairs bound =
    first_holding
    ((1, outside 1 m || outside 0 n)
    ∷ (3, not (is_matrix s m n && eqb (length store) 128))
    ∷ (4, not (good_list store pairs bound 64))
    ∷ (5, not (all_finite s))
    ∷ [])

-- the call, given what is exchanged and the bound
unfoldable pub permuting : (ℕ → ℕ → Matrix → Matrix) → ℕ → Bool → Column → ℕ → ℕ → List ℕ → ℕ → Call (Unit {0}) Column
permuting exchange bound backwards s m n store pairs =
    tested (permuting_refusal s m n store pairs bound) (leaving s)
    (record { answer = done tt; left = on_columns m n (permuted_by exchange (in_order backwards (pairs_of pairs store))) s })

abbrev pub permuting_rows : Bool → Column → ℕ → ℕ → List ℕ → ℕ → Call (Unit {0}) Column
permuting_rows backwards s m n = permuting swap_in_all m backwards s m n

abbrev pub permuting_columns : Bool → Column → ℕ → ℕ → List ℕ → ℕ → Call (Unit {0}) Column
permuting_columns backwards s m n = permuting columns_swapped n backwards s m n

-- ---- the sign

-- 1.0 for an even number of pairs, -1.0 for an odd one
unfoldable pub sign_of : ℕ → Float
sign_of pairs = cond (eqb (pairs % 2) 0) one64 (neg one64)
