-- An inverted word is not taken for a cell's value: a read while a completion is 0 µs old, of an address that no suspended erase veils, is not counted as
-- showing it.
use Prim.Native.Nat.{ℕ}
use mathlib.Core.Path.{◌≡◌, sym, ap, ◌∙◌}
use mathlib.Core.Bool.{Bool, true, false}
use mathlib.Core.List.{List}
use native.Mathlib.Omega.{arith}
use borrow.Author.Tests.{ne_eqb}
use lib.ListN.{length, get_or}
use Rattle.parts.specs.Width.{value_of}
use Rattle.parts.specs.Table.{row_of}
use Rattle.parts.proofs.Sound.{width-least}
use Rattle.commands.specs.declared.effect.Mode.TheVariants.{ReadMode}
use Rattle.device.specs.declared.state.Device.{Device}
use Rattle.device.specs.declared.cycle.Action.TheVariants.{Read}
use Rattle.device.specs.Cycle.{cycle, chip, Outcome, inverted, veils, cycle_refusal}
use Rattle.device.specs.Trace.{after}
use Rattle.device.specs.Recent.{bit_of}
use Rattle.device.proofs.Accepted.{accepted}
use Rattle.device.proofs.Cases.{read-at-rest}
use Rattle.device.proofs.Outputs.{turns-zero}
use Rattle.device.proofs.Recent.{recent-rests}
use Rattle.driver.specs.Talk.{shows}
use Rattle.invoice.specs.Started.{shows_cell}

pub inverted-shows-none : (part : ℕ) (cells : List ℕ) (d : Device) (a : ℕ) (wp : Bool)
    → cycle_refusal part (length cells) d (Read a) ≡ 0 → veils (row_of part) d.core a ≡ false → d.core.mode ≡ ReadMode → d.core.recent ≡ true
    → shows_cell part (chip cells d) (cycle 0 wp (Read a)) (Read a) ≡ false
unfolding after
inverted-shows-none part cells d a wp z clear m n =
    let g = accepted part (length cells) d (Read a) z in
    let c = cycle 0 wp (Read a) in
    let w = (row_of part).width in
    let v = value_of w (get_or cells a 0) in
    let q = read-at-rest part cells d a 0 wp g (recent-rests (row_of part) d g.state n) in
    let s : shows part (chip cells d) c ≡ inverted w v
    = ap (λ (o : Outcome). o.reply.value) q ∙ rw (clear, n, m) in
    let t : value_of w (get_or (after part (chip cells d) c).cells a 0) ≡ v = ap (λ (o : Outcome). value_of w (get_or o.cells a 0)) q in
    ne_eqb _ _ (λ (e : shows part (chip cells d) c ≡ value_of w (get_or (after part (chip cells d) c).cells a 0)).
    omega (arith, turns-zero w (width-least part g.known) v, ap (bit_of 0) (sym s ∙ (e ∙ t))))
