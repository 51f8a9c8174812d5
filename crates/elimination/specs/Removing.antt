-- Document 02, request 2, on the columns of the factors: the last column, number n, taken off.
use Rattle.std.specs.Prelude.{Bool, cond, ◌&&◌, ℕ, ◌-◌, ltb, eqb, length, get_or, take}
use Rattle.store.specs.Steps.{swap_in_all}
use Rattle.swap_list.specs.SwapList.{Swaps}
use Rattle.factors.specs.Factors.{Factors}

-- the last pair, where there is one
unfoldable pub last_pair : Swaps → ℕ × ℕ
last_pair swaps = get_or swaps (length swaps - 1) (0, 0)

-- "the last recorded pair begins with that column's number"
unfoldable pub undoes : ℕ → Swaps → Bool
undoes n swaps = ltb 0 (length swaps) && eqb (last_pair swaps).0 n

-- "the pair goes"
unfoldable pub pairs_before : ℕ → Swaps → Swaps
pairs_before n swaps = cond (undoes n swaps) (take (length swaps - 1) swaps) swaps

-- "those two rows are swapped back in the older columns"
unfoldable pub remove_column : ℕ → Factors → Factors
remove_column n f =
    let older = take n f.columns in
    record { columns = cond (undoes n f.swaps) (swap_in_all n (last_pair f.swaps).1 older) older; swaps = pairs_before n f.swaps }
