-- A minus and the number behind it, or the number (`minus_written`). Assumes nothing.
use mathlib.Core.Path.{◌≡◌, sym, ap, ◌∙◌}
use mathlib.Core.Bool.{true, false}
use mathlib.Core.List.{◌∷◌}
use Prim.Native.Nat.{ℕ, ◌+◌, ◌<◌}
use native.Mathlib.Omega.{arith}
use lib.IntN.{nat_abs}
use lib.ListN.{length, set, length-set}
use Rattle.panel_text.specs.Text.{whole}
use Rattle.panel_text.proofs.Writing.{length_written}
use Rattle.panel_text.proofs.Whole.{whole_few, signed_below, signed_above, minus_written, bare_few, kept_is, sign_is}
use Rattle.panel_text.proofs.put_signed.Goals as goal

pub put_whole-requires : goal.put_whole-requires
put_whole-requires c =
    let bare_is : c.bare-n.result ≡ nat_abs c.args.e = c.bare-n.ensures ∙ ap nat_abs (kept_is c.args.e c.requires.0) in
    let few : c.bare-n.result < 100000 = rw bare_is (bare_few c.args.e c.requires.0) in
    (few, simp length-set (omega arith))

pub shape_of-out-then-e-lt0 : goal.shape_of-out-then-e-lt0
shape_of-out-then-e-lt0 c =
    let n = c.bare-n.result in
    ap length c.put_whole.ensures.out_after
    ∙ length_written (c.args.at + 1) (whole n) (set c.args.out.now c.args.at 45) (simp length-set (omega (arith, whole_few n, c.requires.1)))
    ∙ length-set c.args.out.now c.args.at 45

pub returns-then-e-lt0 : goal.returns-then-e-lt0
returns-then-e-lt0 c =
    let bare_is : c.bare-n.result ≡ nat_abs c.args.e = c.bare-n.ensures ∙ ap nat_abs (kept_is c.args.e c.requires.0) in
    let below = sign_is c.args.e c.requires.0 true c.if-e-lt0.true in
    let is = signed_below c.args.e below ∙ ap (λ (n : ℕ). 45 ∷ whole n) (sym bare_is) in
    let whole = minus_written c.args.at c.bare-n.result _ c.args.e c.args.out.now _ c.requires.1 is c.put_whole.ensures.value c.put_whole.ensures.out_after in
    record { value = whole.0; out_after = whole.1 }

pub put_whole-requires-2 : goal.put_whole-requires-2
put_whole-requires-2 c =
    let bare_is : c.bare-n.result ≡ nat_abs c.args.e = c.bare-n.ensures ∙ ap nat_abs (kept_is c.args.e c.requires.0) in
    let few : c.bare-n.result < 100000 = rw bare_is (bare_few c.args.e c.requires.0) in
    (few, omega arith)

pub returns : goal.returns
returns c =
    let bare_is : c.bare-n.result ≡ nat_abs c.args.e = c.bare-n.ensures ∙ ap nat_abs (kept_is c.args.e c.requires.0) in
    let above = sign_is c.args.e c.requires.0 false c.if-e-lt0.false in
    let is = signed_above c.args.e above ∙ ap whole (sym bare_is) in
    record { value = rw is c.put_whole-2.ensures.value; out_after = rw is c.put_whole-2.ensures.out_after }
