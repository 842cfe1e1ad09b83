-- What cycles do not do to cells: no cell becomes a value that the part cannot hold, and none changes that WP# low protects.
use Prim.Native.Nat.{ℕ, zero, suc, ◌-◌, ◌^◌, ◌<◌}
use mathlib.Core.Path.{◌≡◌, refl, sym, ap, ◌∙◌}
use mathlib.Core.Logic.{◌⊎◌, inl, inr, ⊎_elim}
use mathlib.Core.Bool.{Bool, true, false}
use mathlib.Core.List.{List, [], ◌∷◌, ◌++◌, map}
use native.Mathlib.Omega.{arith}
use borrow.Author.Tests.{ltb-false, lt-ltb, eqb-true, eqb-false, eq-eqb, ne_eqb}
use lib.Dec.{eqb, ltb}
use lib.ListN.{length, get_or, take, drop}
use lib.Bits.{bit_or, and_le_r, or_lt}
use lib.Pow.{pow_pos}
use Rattle.parts.specs.Pick.{pick}
use Rattle.parts.specs.Width.{value_of, fits_in}
use Rattle.parts.specs.Table.{row_of, part_refusal}
use Rattle.parts.specs.Span.{span, holdsb, sector_of, block_of, has_blocks, block_at, protected_of}
use Rattle.parts.specs.Time.{has_command}
use Rattle.parts.specs.declared.span.Span.{Span}
use Rattle.parts.specs.declared.table.End.{End}
use Rattle.parts.specs.declared.table.End.TheVariants.{Neither, Lowest, Highest}
use Rattle.parts.specs.declared.table.Row.{Row}
use Rattle.parts.proofs.Every.{apart, both, unless, split}
use Rattle.parts.proofs.Ranges.{holds-bounds, bounds-hold, block-holds, block_apart, sector-inside}
use Rattle.parts.proofs.Values.{value-lt, fits_lt}
use Rattle.device.specs.declared.state.Operation.{Operation}
use Rattle.device.specs.declared.state.Core.{Core}
use Rattle.device.specs.declared.state.Device.{Device}
use Rattle.device.specs.declared.cycle.Action.{Action}
use Rattle.device.specs.declared.cycle.Action.TheVariants.{Read, Write, Idle, Cut}
use Rattle.device.specs.declared.cycle.Cycle.{Cycle}
use Rattle.device.specs.declared.cycle.Shown.{Shown}
use Rattle.commands.specs.declared.effect.Effect.{Effect}
use Rattle.device.specs.Device.{pending, suspend, resume, busy, held, device}
use Rattle.device.specs.Operation.{cells_of, over, finished, scarred, complete_on, cut_on}
use Rattle.device.specs.Sequence.{ignored, new_operation, suspending, resuming, after_effect, written_of}
use Rattle.device.specs.Cycle.{Chip, Settled, Outcome, settled_of, after_time, read_of, cut_short, cut_of, acted_of, accepted_of, cycle_refusal, cycle_of}
use Rattle.device.specs.Trace.{after, play, uncut_action, uncut}
use Rattle.device.proofs.Sampled.{sampled, heeded}
use Rattle.device.proofs.Apart.{over-elsewhere, outside}
use Rattle.device.proofs.Accepted.{Accepted, accepted, Ranged, ranged, held_fits, busy-valid, ranges}
use Rattle.device.proofs.Settled.{after-time-range}
use Rattle.commands.proofs.Effects.{effect_is}

-- ---- f at each cell of a range, seen at one cell of the whole
module _ (f : ℕ → ℕ) where
  abbrev Here : List ℕ → List ℕ → ℕ → Type 0
  Here new old a = (get_or new a 0 ≡ get_or old a 0) ⊎ (get_or new a 0 ≡ f (get_or old a 0))

  front-or : (n a : ℕ) (cells : List ℕ) → Here (map f (take n cells) ++ drop n cells) cells a
  front-or zero a cells = inl refl
  front-or (suc n) a [] = inl refl
  front-or (suc n) zero (x ∷ xs) = inr refl
  front-or (suc n) (suc a) (x ∷ xs) = front-or n a xs

  over-or : (first count a : ℕ) (cells : List ℕ) → Here (over f (span first count) cells) cells a
  over-or zero count a cells = front-or count a cells
  over-or (suc first) zero a [] = inl refl
  over-or (suc first) (suc count) a [] = inl refl
  over-or (suc first) count zero (x ∷ xs) = inl refl
  over-or (suc first) count (suc a) (x ∷ xs) = over-or first count a xs

-- ---- each cell is as it was, or below two to the width
abbrev pub KeptOrFits : ℕ → List ℕ → List ℕ → Type 0
KeptOrFits w old new = (i : ℕ) → (get_or new i 0 ≡ get_or old i 0) ⊎ (get_or new i 0 < 2 ^ w)

kept : (w : ℕ) (cells : List ℕ) → KeptOrFits w cells cells
kept w cells i = inl refl

then : (w : ℕ) (a b c : List ℕ) → KeptOrFits w a b → KeptOrFits w b c → KeptOrFits w a c
then w a b c p q i = ⊎_elim (λ same. ⊎_elim (λ e. inl (same ∙ e)) (λ l. inr (rw same l)) (p i)) (λ l. inr l) (q i)

over-fits : (w : ℕ) (f : ℕ → ℕ) (s : Span) (cells : List ℕ) → ((x : ℕ) → f x < 2 ^ w) → KeptOrFits w cells (over f s cells)
over-fits w f s cells fits i = ⊎_elim (λ e. inl e) (λ e. inr (rw e (fits (get_or cells i 0)))) (over-or f s.first s.count i cells)

module _ (r : Row) (o : Operation) (fits : fits_in r.width o.«data» ≡ true) where
  finished-lt : (x : ℕ) → finished r o x < 2 ^ r.width
  finished-lt x =
      split (λ (n : ℕ). n < 2 ^ r.width) (eqb o.kind 0) _ _ (λ _. omega (arith, and_le_r x o.«data», fits_lt r.width o.«data» fits)) (λ _. omega (arith, pow_pos r.width))

  scarred-lt : (scar x : ℕ) → scarred r o scar x < 2 ^ r.width
  scarred-lt scar x =
      let mark = value-lt r.width scar in
      split (λ (n : ℕ). n < 2 ^ r.width) (eqb o.kind 0) _ _
      (λ _. omega (arith, and_le_r x (bit_or o.«data» (value_of r.width scar)), or_lt r.width o.«data» (value_of r.width scar) (fits_lt r.width o.«data» fits) mark))
      (λ _. or_lt r.width (value_of r.width x) (value_of r.width scar) (value-lt r.width x) mark)

-- time, and what acts, with an operation pending whose data fits
time-stores : (r : Row) (cells : List ℕ) (k : Core) (e : ℕ) → (pending k.running ≡ true → fits_in r.width k.running.«data» ≡ true) → KeptOrFits r.width cells (settled_of r cells k e).cells
unfolding settled_of complete_on
time-stores r cells k e fits =
    split Stores (busy k) _ _
    (λ b. split Stores (ltb e k.running.left) _ _ (λ _. kept r.width cells)
    (λ _. over-fits r.width (finished r k.running) (cells_of r k.running) cells (finished-lt r k.running (fits b))))
    (λ _. kept r.width cells)
  where
    Stores : Settled → Type 0
    Stores s = KeptOrFits r.width cells s.cells

-- an operation's data fits where it is pending
abbrev Fits : Row → Operation → Type 0
Fits r o = pending o ≡ true → fits_in r.width o.«data» ≡ true

cut-stores : (r : Row) (o : Operation) (s : ℕ) (cells : List ℕ) → Fits r o → KeptOrFits r.width cells (cut_short r o s cells)
unfolding cut_on
cut-stores r o s cells fits =
    split (λ (l : List ℕ). KeptOrFits r.width cells l) (pending o) _ _
    (λ b. over-fits r.width (scarred r o s) (cells_of r o) cells (scarred-lt r o (fits b) s)) (λ _. kept r.width cells)

acts-store : (r : Row) (h : Chip) (wp : Bool) (a : Action) → Fits r h.device.core.running → Fits r h.device.core.suspended
    → KeptOrFits r.width h.cells (acted_of r h wp a).cells
unfolding cut_of
acts-store r h wp (Read a) runs holds = kept r.width h.cells
acts-store r h wp (Write a x) runs holds = kept r.width h.cells
acts-store r h wp Idle runs holds = kept r.width h.cells
acts-store r h wp (Cut s) runs holds =
    let k = h.device.core in
    let cells = cut_short r k.running s h.cells in
    then r.width h.cells cells (cut_short r k.suspended s cells) (cut-stores r k.running s h.cells runs) (cut-stores r k.suspended s cells holds)

-- On eight-bit parts the chip stores only values below 256: an accepted cycle leaves each cell as it was, or below two to the width.
pub stores-values : (part : ℕ) (h : Chip) (c : Cycle) → KeptOrFits (row_of part).width h.cells (after part h c).cells
unfolding after cycle_of accepted_of
stores-values part h c =
    split (λ (o : Outcome). KeptOrFits w h.cells o.cells) (eqb (cycle_refusal part (length h.cells) h.device c.action) 0) _ _
    (λ e. stores (accepted part _ _ _ (eqb-true _ _ e))) (λ _. kept w h.cells)
  where
    r : Row
    r = row_of part

    w : ℕ
    w = r.width

    s : Chip
    s = after_time r h c.elapsed

    stores : Accepted part (length h.cells) h.device c.action → KeptOrFits w h.cells (acted_of r s c.wp c.action).cells
    stores t =
        then w h.cells s.cells (acted_of r s c.wp c.action).cells
        (time-stores r h.cells h.device.core c.elapsed (λ b. (busy-valid r h.device.core (ranges r h.device t.state).1 b).fits))
        (acts-store r s c.wp c.action (λ b. (then-ranged.runs b).fits) (λ b. held_fits r s.device.core.suspended (then-ranged.holds b)))
      where
        then-ranged : Ranged r s.device.core
        then-ranged = ranged r s.device.core (ranges r s.device (after-time-range r h c.elapsed t.state)).1

-- ---- what WP# low protects
not-true : (b : Bool) → (b ≡ true → ⊥) → b ≡ false
not-true true h = absurd (h refl)
not-true false h = refl

-- WP# is low in every cycle
abbrev pub lows : List Cycle → Bool
lows [] = true
lows (c ∷ cs) = pick c.wp false (lows cs)

-- of a protected cell of a known part
module _ (part : ℕ) (known : part_refusal part ≡ 0) (i : ℕ) (protected : holdsb (protected_of (row_of part)) i ≡ true) where
  abbrev r : Row
  r = row_of part

  has-blocks : (b : ℕ) → holdsb (block_of r b) i ≡ true → has_blocks r ≡ true
  unfolding block_of has_blocks
  has-blocks b h = let w = holds-bounds (block_of r b) i h in lt-ltb 0 r.block (omega (arith, w.0, w.1))

  -- the protected range is a block
  protected-block : (P : Span → Type 0) → ((b : ℕ) → holdsb (block_of r b) i ≡ true → P (block_of r b)) → P (protected_of r)
  unfolding protected_of holdsb
  protected-block P f = by r.protected protected
    where
      by : (e : End) → holdsb (block_at r e) i ≡ true → P (block_at r e)
      by Neither h = let w = holds-bounds (span 0 0) i h in absurd (omega (arith, w.1))
      by Lowest h = f 0 h
      by Highest h = f (r.cells - 1) h

  -- the block of an address that the protected range does not hold does not hold the cell
  apart_from : (a : ℕ) → has_blocks r ≡ true → holdsb (protected_of r) a ≡ false → holdsb (block_of r a) i ≡ true → ⊥
  apart_from a b = protected-block (λ (s : Span). holdsb s a ≡ false → holdsb (block_of r a) i ≡ true → ⊥)
      (λ c h no yes. apart {A = ⊥} (sym no ∙ ap (λ (s : Span). holdsb s a) (sym (block_apart r a c i b yes h)) ∙ block-holds r a b))

  blocks : has_blocks r ≡ true
  blocks = protected-block (λ (s : Span). has_blocks r ≡ true) has-blocks

  -- an operation that is started with WP# low is not of that cell
  spared : (o : Operation) → has_command r o.kind ≡ true → ignored r false o.kind o.address ≡ false → holdsb (cells_of r o) i ≡ false
  unfolding cells_of ignored has_command
  spared o c g = not-true _ (split Not (eqb o.kind 0) _ _ program (λ n0. split Not (eqb o.kind 1) _ _ sector (λ n1. split Not (eqb o.kind 2) _ _ block (chip n0 n1))))
    where
      Not : Span → Type 0
      Not s = holdsb s i ≡ true → ⊥

      free : (o.kind ≡ 3 → ⊥) → holdsb (protected_of r) o.address ≡ false
      free n = rw (ne_eqb o.kind 3 n) at g

      program : eqb o.kind 0 ≡ true → Not (span o.address 1)
      program e h =
          let k = eqb-true o.kind 0 e in
          let w = holds-bounds (span o.address 1) i h in
          let same : i ≡ o.address = omega (arith, w.0, w.1) in
          apart {A = ⊥} (sym (free (λ z. omega arith)) ∙ ap (holdsb (protected_of r)) (sym same) ∙ protected)

      sector : eqb o.kind 1 ≡ true → Not (sector_of r o.address)
      sector e h =
          let k = eqb-true o.kind 1 e in
          let w = holds-bounds (sector_of r o.address) i h in
          let b = sector-inside part known o.address blocks in
          apart_from o.address blocks (free (λ z. omega arith)) (bounds-hold (block_of r o.address) i (omega (arith, w.0, b.0)) (omega (arith, w.1, b.1)))

      block : eqb o.kind 2 ≡ true → Not (block_of r o.address)
      block e h = let k = eqb-true o.kind 2 e in apart_from o.address blocks (free (λ z. omega arith)) h

      chip : eqb o.kind 0 ≡ false → eqb o.kind 1 ≡ false → eqb o.kind 2 ≡ false → Not (span 0 r.cells)
      chip n0 n1 n2 h =
          let few = ltb-false 3 o.kind (unless _ _ c).0 in
          let k : o.kind ≡ 3 = omega (arith, few, eqb-false o.kind 0 n0, eqb-false o.kind 1 n1, eqb-false o.kind 2 n2) in
          let none : ltb 0 (protected_of r).count ≡ false = rw (eq-eqb o.kind 3 k) at g in
          let w = holds-bounds (protected_of r) i protected in
          let z = ltb-false 0 (protected_of r).count none in
          omega (arith, w.0, w.1)

  -- neither what runs nor what is suspended is of that cell
  abbrev Spared : Operation → Type 0
  Spared o = pending o ≡ true → holdsb (cells_of r o) i ≡ false

  abbrev Spares : Core → Type 0
  Spares k = Spared k.running × Spared k.suspended

  -- a core that spares the cell, and cells that hold there what they held
  abbrev Safe : List ℕ → List ℕ → Core → Type 0
  Safe old cells k = (get_or cells i 0 ≡ get_or old i 0) × Spares k

  time-safe : (cells : List ℕ) (k : Core) (e : ℕ) → Spares k → Safe cells (settled_of r cells k e).cells (settled_of r cells k e).core
  unfolding settled_of complete_on cells_of
  time-safe cells k e s =
      split Kept (busy k) _ _
      (λ b. split Kept (ltb e k.running.left) _ _ (λ _. (refl, (λ _. s.0 b, s.1)))
      (λ _. (
        over-elsewhere (finished r k.running) (cells_of r k.running).first (cells_of r k.running).count i cells (outside (cells_of r k.running) i (s.0 b)),
        (λ h. apart h, s.1),
      )))
      (λ _. (refl, s))
    where
      Kept : Settled → Type 0
      Kept t = Safe cells t.cells t.core

  write-safe : (d : Device) (a x : ℕ) → Spares d.core → Spares (written_of r d false a x).core
  unfolding written_of cells_of
  write-safe d a x s =
      split Safely (busy d.core) _ _
      (λ b. split Safely (suspending r d.core x) (device (suspend d.core) 0) d (λ _. (λ h. apart h, λ _. s.0 b)) (λ _. s))
      (λ _. split Safely (resuming d.core d.stage x) (device (resume d.core) 0) _ (λ _. (s.1, λ h. apart h))
      (λ _. effect_is (λ (e : Effect). Safely (after_effect r d.core false a x e)) r d.stage a x (λ _ _. s)
      (λ c h. sampled (λ (k : Core) (ops : List Operation). Spares k) r d.core false a x c (λ _. s)
      (λ g. (λ _. spared (new_operation r c a x) h (heeded r d.core false c a g).1, s.1))) (λ _. s)))
    where
      Safely : Device → Type 0
      Safely n = Spares n.core

  acts-safe : (h : Chip) (a : Action) → uncut_action a ≡ true → Spares h.device.core → Safe h.cells (acted_of r h false a).cells (acted_of r h false a).reply.device.core
  unfolding read_of cells_of
  acts-safe h (Read a) u s = (refl, split (λ (t : Shown). Spares t.core) (busy h.device.core) _ _ (λ _. s) (λ _. s))
  acts-safe h (Write a x) u s = (refl, write-safe h.device a x s)
  acts-safe h Idle u s = (refl, s)
  acts-safe h (Cut n) u s = apart u

  cycle-safe : (h : Chip) (c : Cycle) → c.wp ≡ false → uncut_action c.action ≡ true → Spares h.device.core → Safe h.cells (after part h c).cells (after part h c).device.core
  unfolding after cycle_of accepted_of
  cycle-safe h c low u s =
      split (λ (o : Outcome). Safe h.cells o.cells o.reply.device.core) (eqb (cycle_refusal part (length h.cells) h.device c.action) 0) _ _
      (λ _. let t = time-safe h.cells h.device.core c.elapsed s in
      let a = acts-safe (after_time r h c.elapsed) c.action u t.1 in
      rw low (a.0 ∙ t.0, a.1)) (λ _. (refl, s))

  -- WP# low protects: over any list of cycles with WP# low and without a cut, from a device on which nothing is pending, running or suspended, a
  -- protected cell is what it was, whatever is programmed or erased: cell, sector, block or chip.
  pub protects : (cs : List Cycle) (h : Chip) → lows cs ≡ true → uncut cs ≡ true → Spares h.device.core → get_or (play part h cs).cells i 0 ≡ get_or h.cells i 0
  protects [] h low u s = refl
  protects (c ∷ cs) h low u s =
      let l = unless c.wp (lows cs) low in
      let w = both (uncut_action c.action) (uncut cs) u in
      let t = cycle-safe h c l.0 w.0 s in
      protects cs (after part h c) l.1 w.1 t.1 ∙ t.0

  pub protects-at-rest : (cs : List Cycle) (h : Chip) → lows cs ≡ true → uncut cs ≡ true → busy h.device.core ≡ false → held h.device.core ≡ false
      → get_or (play part h cs).cells i 0 ≡ get_or h.cells i 0
  protects-at-rest cs h low u b n = protects cs h low u (λ e. apart (sym b ∙ e), λ e. apart (sym n ∙ e))
