-- What is left to write from number k on is `each_from` from k on. Assumes nothing.
use Prim.Native.Nat.{ℕ, ◌+◌}
use mathlib.Core.Path.{◌≡◌, sym, ap, ◌∙◌}
use native.Mathlib.Omega.{arith}
use lib.ListN.{set}
use lib.Ieee.{Float, nan, binary64, of_bits}
use lib.Ieee.Scale.{finite}
use Rattle.numbers.specs.Each.{each_from}
use Rattle.numbers.proofs.Each.{each_step, each_stop, each_list}
use Rattle.panel_file.specs.File.{number_at}
use Rattle.panel_file.proofs.Bits.{finite_number}
use Rattle.panel_file.proofs.fill.Goals as goal

pub loop-k-init : goal.loop-k-init
loop-k-init c = each_list _ _

pub float_from_bits-x : goal.float_from_bits-x
unfolding number_at
float_from_bits-x c =
    finite_number c.bits_at.result (ap (λ (b : ℕ). finite (of_bits binary64 b)) c.bits_at.ensures ∙ c.requires.by_index c.loop-k.k (omega arith))

pub loop-k-preserved : goal.loop-k-preserved
unfolding number_at
loop-k-preserved c =
    let F : ℕ → Float → Float = λ i v. number_at c.args.file.now (c.args.from + i) in
    let e : of_bits binary64 c.bits_at.result ≡ F c.loop-k.k nan = ap (of_bits binary64) c.bits_at.ensures in
    ap (λ (v : Float). each_from F (c.loop-k.k + 1) (set c.loop-k.dst c.loop-k.k v)) e ∙ each_step F c.loop-k.k c.loop-k.dst nan (omega arith)
    ∙ c.loop-k.invariant

pub returns : goal.returns
returns c = sym (each_stop _ _ _ (omega arith)) ∙ c.loop-k.invariant
