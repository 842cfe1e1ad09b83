-- What a driver has named so far, by its state alone: the first of its writes; or all of them, its polls and the confirming read.
-- Of each cycle g makes what is listed, from the phase that the driver is in once it has named it, the µs, and what the cycle does.
use Rattle.std.specs.Prelude.{Some, None}
use Prim.Native.Nat.{ℕ, zero, suc, ◌+◌, ◌≤◌, ◌<◌}
use mathlib.Core.Path.{◌≡◌, refl, sym, ap, ◌∙◌}
use mathlib.Core.Bool.{Bool, true, false}
use mathlib.Core.List.{List, [], ◌∷◌, ◌++◌, append_assoc, append-nil}
use native.Mathlib.Nat.{not-suc-le-zero}
use native.Mathlib.Omega.{arith}
use lib.ListN.{length, get_or, take, replicate, length-append, length-map, length-replicate}
use Rattle.parts.specs.Pick.{pick}
use Rattle.parts.specs.Table.{row_of}
use Rattle.parts.specs.declared.table.Row.{Row}
use Rattle.parts.proofs.Every.{apart, split}
use Rattle.device.specs.declared.cycle.Action.{Action}
use Rattle.device.specs.declared.cycle.Action.TheVariants.{Read, Write}
use Rattle.device.specs.declared.cycle.Cycle.{Cycle}
use Rattle.device.specs.Cycle.{cycle, Chip}
use Rattle.device.specs.Trace.{after}
use Rattle.commands.specs.declared.write.Write.{Write as Written}
use Rattle.driver.specs.declared.machine.Phase.{Phase}
use Rattle.driver.specs.declared.machine.Phase.TheVariants.{Writing, Polling, Confirming}
use Rattle.driver.specs.declared.machine.Driver.{Driver}
use Rattle.driver.specs.Machine.{Next}
use Rattle.driver.specs.declared.machine.Step.{Step}
use Rattle.driver.specs.Writes.{no_write, writes_of, write_count}
use Rattle.driver.specs.Machine.{address_of, confirm_after, writing, confirmed, in_range, step_of}
use Rattle.driver.specs.Talk.{write_cycle, write_cycles, operation_cycles, shows, talk}
use Rattle.driver.proofs.Steps.{Way, refused, writes, wrote, waits, matched, ends, way, keeps}
use Rattle.driver.proofs.Talks.{write-length, talk-stops, talk-goes}

module _ (A : Type 0) (g : Phase → ℕ → Action → A) where
  -- the writes, the last of which goes on to polling
  abbrev pub writes_named : List Written → List A
  writes_named [] = []
  writes_named (w ∷ []) = g Polling 0 (Write w.address w.«data») ∷ []
  writes_named (w ∷ (v ∷ ws)) = g Writing 0 (Write w.address w.«data») ∷ writes_named (v ∷ ws)

  abbrev pub all_writes : Driver → List A
  all_writes d = writes_named (writes_of (row_of d.part) d.command d.address d.«data»)

  abbrev pub poll_of : Driver → A
  poll_of d = g Polling d.p (Read (address_of d.command d.address))

  abbrev pub confirm_of : Driver → A
  confirm_of d = g Confirming confirm_after (Read (address_of d.command d.address))

  abbrev pub named_in : Driver → Phase → ℕ → List A
  named_in d f n = pick (writing f) (take n (all_writes d)) (all_writes d ++ (replicate n (poll_of d) ++ pick (confirmed f) (confirm_of d ∷ []) []))

  abbrev pub named_by : Driver → List A
  named_by d = named_in d d.phase d.count

  -- what a step names
  abbrev pub now : Next → Phase → List A
  now None f = []
  now (Some (e, a)) f = g f e a ∷ []

  -- ---- one step more
  a_write : (ws : List Written) (n : ℕ) → n + 1 < length ws
      → take (n + 1) (writes_named ws) ≡ take n (writes_named ws) ++ (g Writing 0 (Write (get_or ws n no_write).address (get_or ws n no_write).«data») ∷ [])
  a_write [] n h = absurd (not-suc-le-zero h)
  a_write (w ∷ []) n h = absurd (omega arith)
  a_write (w ∷ (v ∷ ws)) zero h = refl
  a_write (w ∷ (v ∷ ws)) (suc n) h =
      let e : suc n + 1 ≡ suc (n + 1) = omega arith in
      rw e (ap (λ (l : List A). g Writing 0 (Write w.address w.«data») ∷ l) (a_write (v ∷ ws) n (omega arith)))

  last-write : (ws : List Written) (n : ℕ) → n + 1 ≡ length ws
      → writes_named ws ≡ take n (writes_named ws) ++ (g Polling 0 (Write (get_or ws n no_write).address (get_or ws n no_write).«data») ∷ [])
  last-write [] n h = absurd (omega arith)
  last-write (w ∷ []) zero h = refl
  last-write (w ∷ []) (suc n) h = absurd (omega arith)
  last-write (w ∷ (v ∷ ws)) zero h = absurd (omega arith)
  last-write (w ∷ (v ∷ ws)) (suc n) h = ap (λ (l : List A). g Writing 0 (Write w.address w.«data») ∷ l) (last-write (v ∷ ws) n (omega arith))

  one_more : (n : ℕ) (x : A) → replicate (n + 1) x ++ [] ≡ replicate n x ++ (x ∷ [])
  one_more zero x = refl
  one_more (suc n) x = let e : suc n + 1 ≡ suc (n + 1) = omega arith in rw e (ap (λ (l : List A). x ∷ l) (one_more n x))

  pub names : (d : Driver) (read : ℕ) → in_range d ≡ true → named_by (step_of d read).driver ≡ named_by d ++ now (step_of d read).next (step_of d read).driver.phase
  names d read e = go (step_of d read) (way d read)
    where
      W : List A
      W = all_writes d

      P : ℕ → List A
      P n = replicate n (poll_of d)

      long : length (writes_of (row_of d.part) d.command d.address d.«data») ≡ write_count d.command
      long = write-length (row_of d.part) d.command d.address d.«data»

      and_then : (x : A) → W ++ (P d.count ++ (x ∷ [])) ≡ (W ++ (P d.count ++ [])) ++ (x ∷ [])
      and_then x = sym (append_assoc W (P d.count) (x ∷ [])) ∙ ap (λ (l : List A). (W ++ l) ++ (x ∷ [])) (sym (append-nil (P d.count)))

      go : (s : Step) → Way d s → named_by s.driver ≡ named_by d ++ now s.next s.driver.phase
      go s (refused f) = apart (sym f ∙ e)
      go s (writes q l) = rw q (a_write (writes_of (row_of d.part) d.command d.address d.«data») d.count (rw long l))
      go s (wrote q l) = rw q (append-nil W ∙ last-write (writes_of (row_of d.part) d.command d.address d.«data») d.count (rw long l))
      go s (waits q l) = rw q (ap (λ (l : List A). W ++ l) (one_more d.count (poll_of d)) ∙ and_then (poll_of d))
      go s (matched q l m) = rw q (and_then (confirm_of d))
      go s (ends f i z c h) = rw (c.0, c.1) (sym (append-nil (named_by d)))

  -- ---- a talk: what its steps name, from one that stands on
  unfoldable pub spoken : ℕ → Bool → ℕ → Step → Chip → List A
  spoken part wp zero s h = []
  spoken part wp (suc n) s h =
      elim s.next [
        | None ↦ []
        | Some (e, a) ↦ g s.driver.phase e a ∷ spoken part wp n (step_of s.driver (shows part h (cycle e wp a))) (after part h (cycle e wp a))
      ]

  module _ (part : ℕ) (wp : Bool) (n : ℕ) (s : Step) (h : Chip) where
    pub spoken-stops : s.next ≡ None → spoken part wp (suc n) s h ≡ []
    unfolding spoken
    spoken-stops q = rw (q, spoken)

    pub spoken-goes : (e : ℕ) (a : Action) → s.next ≡ Some (e, a)
        → spoken part wp (suc n) s h ≡ g s.driver.phase e a ∷ spoken part wp n (step_of s.driver (shows part h (cycle e wp a))) (after part h (cycle e wp a))
    unfolding spoken
    spoken-goes e a q = rw (q, spoken)

  -- what was named before, and then is, is what the state at the end says
  abbrev pub Adds : List A → Step → Step → List A → Type 0
  Adds before s t L = named_by s.driver ≡ before ++ now s.next s.driver.phase → named_by t.driver ≡ (before ++ L) ++ now t.next t.driver.phase

  pub stays : (before : List A) (s : Step) → Adds before s s []
  stays before s e = e ∙ ap (λ (l : List A). l ++ now s.next s.driver.phase) (sym (append-nil before))

  pub moves : (before : List A) (s t : Step) (e : ℕ) (a : Action) (L : List A) (read : ℕ) → s.next ≡ Some (e, a) → in_range s.driver ≡ true
      → Adds (before ++ (g s.driver.phase e a ∷ [])) (step_of s.driver read) t L → Adds before s t (g s.driver.phase e a ∷ L)
  moves before s t e a L read q i h k =
      let x = g s.driver.phase e a in
      let past : named_by s.driver ≡ before ++ (x ∷ []) = rw q at k in
      h (names s.driver read i ∙ ap (λ (l : List A). l ++ now (step_of s.driver read).next (step_of s.driver read).driver.phase) past)
      ∙ ap (λ (l : List A). l ++ now t.next t.driver.phase) (append_assoc before (x ∷ []) L)

  talk-on : (part : ℕ) (wp : Bool) (n : ℕ) (before : List A) (s : Step) (h : Chip) → in_range s.driver ≡ true
      → ((before : List A) (s : Step) (h : Chip) → in_range s.driver ≡ true → Adds before s (talk step_of part wp n s h).last (spoken part wp n s h))
      → (x : Next) → s.next ≡ x → Adds before s (talk step_of part wp (suc n) s h).last (spoken part wp (suc n) s h)
  talk-on part wp n before s h i ih None q = rw (talk-stops part wp n s h q, spoken-stops part wp n s h q) (stays before s)
  talk-on part wp n before s h i ih (Some (e, a)) q =
      let c = cycle e wp a in
      let v = shows part h c in
      rw (talk-goes part wp n s h e a q, spoken-goes part wp n s h e a q)
      (moves before s (talk step_of part wp n (step_of s.driver v) (after part h c)).last e a _ v q i
      (ih (before ++ (g s.driver.phase e a ∷ [])) (step_of s.driver v) (after part h c) (keeps s.driver v i)))

  pub talk-adds : (part : ℕ) (wp : Bool) (n : ℕ) (before : List A) (s : Step) (h : Chip) → in_range s.driver ≡ true → Adds before s (talk step_of part wp n s h).last (spoken part wp n s h)
  unfolding talk spoken
  talk-adds part wp zero before s h i = stays before s
  talk-adds part wp (suc n) before s h i = talk-on part wp n before s h i (talk-adds part wp n) s.next refl

-- ---- as cycles
module _ (wp : Bool) where
  abbrev pub as_cycle : Phase → ℕ → Action → Cycle
  as_cycle f e a = cycle e wp a

  writes_are : (ws : List Written) → writes_named Cycle as_cycle ws ≡ write_cycles wp ws
  writes_are [] = refl
  writes_are (w ∷ []) = refl
  writes_are (w ∷ (v ∷ ws)) = ap (λ (cs : List Cycle). write_cycle wp w ∷ cs) (writes_are (v ∷ ws))

  pub cycles-are : (d : Driver) (f : Phase) (n : ℕ) → writing f ≡ false
      → named_in Cycle as_cycle d f n ≡ operation_cycles (row_of d.part) wp d.command d.address d.«data» d.p n f
  cycles-are d f n e = rw (e, writes_are (writes_of (row_of d.part) d.command d.address d.«data»))

  pub cycles-few : (r : Row) (command a x p n : ℕ) (f : Phase) → length (operation_cycles r wp command a x p n f) ≤ write_count command + n + 1
  cycles-few r command a x p n f =
      split (λ (cs : List Cycle). length (write_cycles wp (writes_of r command a x) ++ (replicate n (cycle p wp (Read (address_of command a))) ++ cs)) ≤ write_count command + n + 1) (confirmed f) _ _
      (λ _. simp (length-append, length-map, length-replicate, write-length) (omega arith)) (λ _. simp (length-append, length-map, length-replicate, write-length) (omega arith))
