-- A matrix that is not refused is square. Assumes nothing.
use mathlib.Core.Path.{refl, sym}
use Rattle.factors.proofs.Held.{passed, square_matrix}
use Rattle.from_factors.proofs.product.Goals as goal

pub diagonal_product-requires : goal.diagonal_product-requires
diagonal_product-requires c = square_matrix _ _ _ _ refl (passed _ _ _ _ (sym c.in_ok-test_held.ensures))
