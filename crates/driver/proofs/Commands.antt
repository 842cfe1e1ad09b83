-- A command's writes on the model: each takes the sequence on, and the last one starts the operation.
use Prim.Native.Nat.{ℕ, zero, suc, zero-le, ◌%◌, ◌≤◌, ◌<◌}
use mathlib.Core.Path.{◌≡◌, refl, sym, ◌∙◌}
use mathlib.Core.Bool.{Bool, true, false}
use mathlib.Core.List.{List, [], ◌∷◌}
use native.Mathlib.Nat.{mod-eq_of_lt}
use native.Mathlib.Omega.{arith}
use borrow.Author.Tests.{ltb-false, eq-eqb, ne_eqb}
use lib.Dec.{eqb, ltb}
use lib.ListN.{length}
use lib.Pow.{pow_mono}
use Rattle.parts.specs.Pick.{pick}
use Rattle.parts.specs.Width.{fits_in}
use Rattle.parts.specs.Table.{row_of, part_refusal}
use Rattle.parts.specs.Span.{has_blocks}
use Rattle.parts.specs.Time.{has_command}
use Rattle.parts.specs.declared.table.Row.{Row}
use Rattle.parts.proofs.Every.{unless, split}
use Rattle.parts.proofs.Values.{lt-fits}
use Rattle.parts.proofs.Sound.{width-least, codes-differ, sector-not-chip, block-not-chip, sector-byte, block-byte, u1-compared, u2-compared, compared-cells}
use Rattle.device.specs.declared.state.Core.{Core}
use Rattle.commands.specs.declared.effect.Effect.TheVariants.{Goes, Starts}
use Rattle.device.specs.declared.cycle.Action.TheVariants.{Write as Writes}
use Rattle.device.specs.Device.{busy_with, aged_by, busy, held, device}
use Rattle.commands.specs.Commands.{effect_of}
use Rattle.device.specs.Sequence.{ignored, new_operation}
use Rattle.device.specs.Cycle.{cycle, chip}
use Rattle.device.proofs.Cases.{write-leaves, write-starts, none-held, none-resumed, only-protected}
use Rattle.device.proofs.Started.{Moves, Leads, ends, then}
use Rattle.commands.specs.declared.write.Write.{Write}
use Rattle.driver.specs.Writes.{last_write, writes_of}
use Rattle.driver.specs.Talk.{write_cycle, write_cycles, operation_of}
use Rattle.driver.proofs.Asked.{Target}

-- the commands of a part are four
pub command-le : (r : Row) (command : ℕ) → has_command r command ≡ true → command ≤ 3
unfolding has_command
command-le r command e = ltb-false 3 command (unless (ltb 3 command) _ e).0

pub four : (P : ℕ → Type 0) → P 0 → P 1 → P 2 → P 3 → (k : ℕ) → k ≤ 3 → P k
four P a b c d zero h = a
four P a b c d (suc zero) h = b
four P a b c d (suc (suc zero)) h = c
four P a b c d (suc (suc (suc zero))) h = d
four P a b c d (suc (suc (suc (suc k)))) h = absurd (omega arith)

-- ---- the effects of a known part's writes
module _ (part : ℕ) (known : part_refusal part ≡ 0) where
  abbrev r : Row
  r = row_of part

  u1-self : r.u1 % r.compared ≡ r.u1
  u1-self = mod-eq_of_lt (u1-compared part known)

  u2-self : r.u2 % r.compared ≡ r.u2
  u2-self = mod-eq_of_lt (u2-compared part known)

  pub u1-there : r.u1 < r.cells
  u1-there = omega (arith, u1-compared part known, compared-cells part known)

  pub u2-there : r.u2 < r.cells
  u2-there = omega (arith, u2-compared part known, compared-cells part known)

  pub byte_fits : (x : ℕ) → x < 256 → fits_in r.width x ≡ true
  byte_fits x h = lt-fits r.width x (omega (arith, pow_mono (width-least part known)))

  -- a byte at U1 or U2 that takes the sequence on
  first_goes : effect_of r 0 r.u1 0xaa ≡ Goes 1
  unfolding effect_of
  first_goes = simp (u1-self, eq-eqb r.u1 r.u1 refl)

  second-goes : effect_of r 1 r.u2 0x55 ≡ Goes 2
  unfolding effect_of
  second-goes = simp (u2-self, eq-eqb r.u2 r.u2 refl)

  arms : effect_of r 2 r.u1 0xa0 ≡ Goes 3
  unfolding effect_of
  arms = simp (u1-self, eq-eqb r.u1 r.u1 refl)

  goes_on : effect_of r 2 r.u1 0x80 ≡ Goes 4
  unfolding effect_of
  goes_on = simp (u1-self, eq-eqb r.u1 r.u1 refl)

  third-goes : effect_of r 4 r.u1 0xaa ≡ Goes 5
  unfolding effect_of
  third-goes = simp (u1-self, eq-eqb r.u1 r.u1 refl)

  fourth-goes : effect_of r 5 r.u2 0x55 ≡ Goes 6
  unfolding effect_of
  fourth-goes = simp (u2-self, eq-eqb r.u2 r.u2 refl)

  -- the last write starts its command: after A0H anything, after the second 55H the code
  last-starts : (command a x : ℕ) → has_command r command ≡ true
      → effect_of r (pick (eqb command 0) 3 6) (last_write r command a x).address (last_write r command a x).«data» ≡ Starts command
  unfolding effect_of last_write has_command
  last-starts command a x h = four Starting (λ h. refl) (λ h. sector) (λ h. block h) (λ h. chip-code) command (command-le r command h) h
    where
      Starting : ℕ → Type 0
      Starting k = has_command r k ≡ true → effect_of r (pick (eqb k 0) 3 6) (last_write r k a x).address (last_write r k a x).«data» ≡ Starts k

      sector : effect_of r 6 a r.sector_code ≡ Starts 1
      sector = simp (mod-eq_of_lt (sector-byte part known), eq-eqb r.sector_code r.sector_code refl)

      block : has_blocks r ≡ true → effect_of r 6 a r.block_code ≡ Starts 2
      block h =
          simp (mod-eq_of_lt (block-byte part known), ne_eqb r.block_code r.sector_code (λ e. codes-differ part known (sym e)), eq-eqb r.block_code r.block_code refl, h)

      chip-code : effect_of r 6 r.u1 0x10 ≡ Starts 3
      chip-code =
          simp (ne_eqb 0x10 r.sector_code (λ e. sector-not-chip part known (sym e)), ne_eqb 0x10 r.block_code (λ e. block-not-chip part known (sym e)), u1-self, eq-eqb r.u1 r.u1 refl)

-- ---- the last write of a command that is asked of a known part
module _ (part : ℕ) (known : part_refusal part ≡ 0) (command a x : ℕ) (target : Target (row_of part) command a x) where
  few : command ≤ 3
  few = command-le (row_of part) command target.has

  pub last-there : (last_write (row_of part) command a x).address < (row_of part).cells
  unfolding last_write
  last-there = four There (λ t. t.there (λ e. omega arith)) (λ t. t.there (λ e. omega arith)) (λ t. t.there (λ e. omega arith)) (λ t. u1-there part known) command few target
    where
      There : ℕ → Type 0
      There k = Target (row_of part) k a x → (last_write (row_of part) k a x).address < (row_of part).cells

  pub last_fits : fits_in (row_of part).width (last_write (row_of part) command a x).«data» ≡ true
  unfolding last_write
  last_fits =
      four Fits (λ t. t.fits refl) (λ t. byte_fits part known _ (sector-byte part known))
      (λ t. byte_fits part known _ (block-byte part known)) (λ t. byte_fits part known 0x10 (omega arith)) command few target
    where
      Fits : ℕ → Type 0
      Fits k = Target (row_of part) k a x → fits_in (row_of part).width (last_write (row_of part) k a x).«data» ≡ true

  last-heeded : (wp : Bool) → ignored (row_of part) wp command a ≡ false → ignored (row_of part) wp command (last_write (row_of part) command a x).address ≡ false
  unfolding last_write ignored
  last-heeded wp = four Heeded (λ i. i) (λ i. i) (λ i. i) (λ i. i) command few
    where
      Heeded : ℕ → Type 0
      Heeded k = ignored (row_of part) wp k a ≡ false → ignored (row_of part) wp k (last_write (row_of part) k a x).address ≡ false

-- ---- on the lent cells of a known part, with nothing running and nothing suspended
module _ (part : ℕ) (known : part_refusal part ≡ 0) (cells : List ℕ) (whole : length cells ≡ (row_of part).cells) (wp : Bool) (k : Core) (rest : busy k ≡ false) (free : held k ≡ false) where
  module _ (s : ℕ) (le : s ≤ 6) (a x : ℕ) (there : a < (row_of part).cells) (fits : fits_in (row_of part).width x ≡ true) where
    -- a write that takes the sequence on
    on : (s' : ℕ) → effect_of (row_of part) s a x ≡ Goes s' → Moves part (chip cells (device k s)) (cycle 0 wp (Writes a x)) (chip cells (device k s')) []
    on s' e =
        record {
          left = write-leaves part cells known whole a there k s 0 wp x rest (none-held k free) (none-resumed k free s x) le fits ∙ rw e;
          starts = write-starts part cells known whole a there k s 0 wp x rest (none-held k free) (none-resumed k free s x) le fits ∙ rw e;
        }

    -- a write that starts an operation
    starts-it : (c : ℕ) → effect_of (row_of part) s a x ≡ Starts c → ignored (row_of part) wp c a ≡ false
        → Moves part (chip cells (device k s)) (cycle 0 wp (Writes a x)) (chip cells (device (busy_with k (new_operation (row_of part) c a x)) 0)) (new_operation (row_of part) c a x ∷ [])
    starts-it c e i =
        record {
          left = write-leaves part cells known whole a there k s 0 wp x rest (none-held k free) (none-resumed k free s x) le fits ∙ rw (e, only-protected (aged_by k 0) free (row_of part) wp c a, i);
          starts = write-starts part cells known whole a there k s 0 wp x rest (none-held k free) (none-resumed k free s x) le fits ∙ rw (e, only-protected (aged_by k 0) free (row_of part) wp c a, i);
        }

  -- a byte at U1, and at U2
  at-u1 : (s x s' : ℕ) → s ≤ 6 → x < 256 → effect_of (row_of part) s (row_of part).u1 x ≡ Goes s'
      → Moves part (chip cells (device k s)) (cycle 0 wp (Writes (row_of part).u1 x)) (chip cells (device k s')) []
  at-u1 s x s' h b e = on s h (row_of part).u1 x (u1-there part known) (byte_fits part known x b) s' e

  at-u2 : (s x s' : ℕ) → s ≤ 6 → x < 256 → effect_of (row_of part) s (row_of part).u2 x ≡ Goes s'
      → Moves part (chip cells (device k s)) (cycle 0 wp (Writes (row_of part).u2 x)) (chip cells (device k s')) []
  at-u2 s x s' h b e = on s h (row_of part).u2 x (u2-there part known) (byte_fits part known x b) s' e

  -- a command's writes leave the cells, and the last one starts its operation, no other write any
  pub command-leads : (command a x : ℕ) → Target (row_of part) command a x → ignored (row_of part) wp command a ≡ false
      → Leads part (chip cells (device k 0)) (write_cycles wp (writes_of (row_of part) command a x))
      (chip cells (device (busy_with k (operation_of (row_of part) command a x)) 0)) (operation_of (row_of part) command a x ∷ [])
  unfolding writes_of
  command-leads command a x target i =
      split Leading (eqb command 0) _ _
      (λ z. then (at-u1 0 0xaa 1 zero-le (omega arith) (first_goes part known))
      (then (at-u2 1 0x55 2 (omega arith) (omega arith) (second-goes part known))
      (then (at-u1 2 0xa0 3 (omega arith) (omega arith) (arms part known))
      (ends (last 3 (omega arith) (rw z at starting))))))
      (λ z. then (at-u1 0 0xaa 1 zero-le (omega arith) (first_goes part known))
      (then (at-u2 1 0x55 2 (omega arith) (omega arith) (second-goes part known))
      (then (at-u1 2 0x80 4 (omega arith) (omega arith) (goes_on part known))
      (then (at-u1 4 0xaa 5 (omega arith) (omega arith) (third-goes part known))
      (then (at-u2 5 0x55 6 (omega arith) (omega arith) (fourth-goes part known))
      (ends (last 6 (omega arith) (rw z at starting))))))))
    where
      w : Write
      w = last_write (row_of part) command a x

      Leading : List Write → Type 0
      Leading ws = Leads part (chip cells (device k 0)) (write_cycles wp ws) (chip cells (device (busy_with k (operation_of (row_of part) command a x)) 0)) (operation_of (row_of part) command a x ∷ [])

      starting : effect_of (row_of part) (pick (eqb command 0) 3 6) w.address w.«data» ≡ Starts command
      starting = last-starts part known command a x target.has

      last : (s : ℕ) → s ≤ 6 → effect_of (row_of part) s w.address w.«data» ≡ Starts command
          → Moves part (chip cells (device k s)) (write_cycle wp w) (chip cells (device (busy_with k (operation_of (row_of part) command a x)) 0)) (operation_of (row_of part) command a x ∷ [])
      last s h e =
          starts-it s h w.address w.«data» (last-there part known command a x target) (last_fits part known command a x target) command e (last-heeded part known command a x target wp i)
