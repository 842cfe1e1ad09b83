-- The operations that cycles start: the part's, in the order of the cycles; none by a read.
use Prim.Native.Nat.{ℕ, zero, suc, ◌<◌}
use mathlib.Core.Path.{◌≡◌, refl, sym, ap, ◌∙◌}
use mathlib.Core.Bool.{Bool, true}
use mathlib.Core.List.{List, [], ◌∷◌, ◌++◌, append_assoc, append-nil}
use borrow.Author.Tests.{eqb-true}
use lib.Dec.{eqb}
use lib.ListN.{length, replicate}
use Rattle.parts.specs.Width.{fits_in}
use Rattle.parts.specs.Table.{row_of}
use Rattle.parts.specs.Time.{has_command}
use Rattle.parts.specs.declared.table.Row.{Row}
use Rattle.parts.proofs.Every.{both, pick_same, split}
use Rattle.device.specs.declared.state.Operation.{Operation}
use Rattle.device.specs.declared.state.Device.{Device}
use Rattle.commands.specs.declared.effect.Effect.{Effect}
use Rattle.device.specs.declared.cycle.Action.{Action}
use Rattle.device.specs.declared.cycle.Action.TheVariants.{Read, Write, Idle, Cut}
use Rattle.device.specs.declared.cycle.Cycle.{Cycle}
use Rattle.device.specs.Device.{busy}
use Rattle.device.specs.Sequence.{passed_over, resuming}
use Rattle.device.specs.Cycle.{Chip, cycle, action_refusal, cycle_refusal, after_time}
use Rattle.device.specs.Trace.{after, play, effect_starts, action_starts, started_by, started_in, All, uncut_action, uncut}
use Rattle.device.proofs.Accepted.{accepted, write-there}
use Rattle.commands.proofs.Effects.{effect_is}

-- ---- they are the part's: a command it has, an address of it, data that fits
pub record Startable (r : Row) (o : Operation) : Type 0 where
  pub command : has_command r o.kind ≡ true
  pub there : o.address < r.cells
  pub fits : fits_in r.width o.«data» ≡ true

pub all_append : (P : Operation → Type 0) (os ps : List Operation) → All P os → All P ps → All P (os ++ ps)
all_append P [] ps a b = b
all_append P (o ∷ os) ps a b = (a.0, all_append P os ps a.1 b)

action-starts : (r : Row) (d : Device) (wp : Bool) (a : Action) → action_refusal r a ≡ 0 → All (Startable r) (action_starts r d wp a)
action-starts r d wp (Read a) z = tt
action-starts r d wp (Write a x) z =
    let t = write-there r a x z in
    split Good (busy d.core) _ _ (λ _. tt)
    (λ _. split Good (resuming d.core d.stage x) _ _ (λ _. tt)
    (λ _. effect_is (λ (e : Effect). Good (effect_starts r d.core wp a x e)) r d.stage a x (λ _ _. tt)
    (λ k c. split Good (passed_over r d.core wp k a) _ _ (λ _. tt) (λ _. (record { command = c; there = t.0; fits = t.1 }, tt))) (λ _. tt)))
  where
    Good : List Operation → Type 0
    Good = All (Startable r)
action-starts r d wp Idle z = tt
action-starts r d wp (Cut s) z = tt

started-by : (part : ℕ) (h : Chip) (c : Cycle) → All (Startable (row_of part)) (started_by part h c)
unfolding started_by
started-by part h c =
    split (All (Startable (row_of part))) (eqb (cycle_refusal part (length h.cells) h.device c.action) 0) _ _
    (λ e. action-starts (row_of part) (after_time (row_of part) h c.elapsed).device c.wp c.action (accepted part _ _ _ (eqb-true _ _ e)).reach) (λ _. tt)

pub started-all : (part : ℕ) (cs : List Cycle) (h : Chip) → All (Startable (row_of part)) (started_in part h cs)
started-all part [] h = tt
started-all part (c ∷ cs) h = all_append (Startable (row_of part)) (started_by part h c) (started_in part (after part h c) cs) (started-by part h c) (started-all part cs (after part h c))

-- ---- cycles in a row
pub started-append : (part : ℕ) (h : Chip) (cs ds : List Cycle) → started_in part h (cs ++ ds) ≡ started_in part h cs ++ started_in part (play part h cs) ds
started-append part h [] ds = refl
started-append part h (c ∷ cs) ds =
    ap (λ (os : List Operation). started_by part h c ++ os) (started-append part (after part h c) cs ds)
    ∙ sym (append_assoc (started_by part h c) (started_in part (after part h c) cs) (started_in part (play part (after part h c) cs) ds))

-- a read starts nothing
pub read-starts : (part : ℕ) (h : Chip) (e : ℕ) (wp : Bool) (a : ℕ) → started_by part h (cycle e wp (Read a)) ≡ []
unfolding started_by
read-starts part h e wp a = pick_same (eqb (cycle_refusal part (length h.cells) h.device (Read a)) 0) []

-- nor do n reads in front of cycles that start nothing
pub reads-start : (part n e : ℕ) (wp : Bool) (a : ℕ) (cs : List Cycle) → ((h : Chip) → started_in part h cs ≡ []) → (h : Chip) → started_in part h (replicate n (cycle e wp (Read a)) ++ cs) ≡ []
reads-start part zero e wp a cs none h = none h
reads-start part (suc n) e wp a cs none h = rw (read-starts part h e wp a) (reads-start part n e wp a cs none (after part h (cycle e wp (Read a))))

pub one-read-starts : (part e : ℕ) (wp : Bool) (a : ℕ) (h : Chip) → started_in part h (cycle e wp (Read a) ∷ []) ≡ []
one-read-starts part e wp a h = rw (read-starts part h e wp a)

-- ---- what cycles lead to: the chip they leave, and the operations they start
pub record Moves (part : ℕ) (h : Chip) (c : Cycle) (h' : Chip) (os : List Operation) : Type 0 where
  pub left : after part h c ≡ h'
  pub starts : started_by part h c ≡ os

-- of the cycles only the last one starts anything: the operations os
abbrev pub LastStarts : ℕ → Chip → List Cycle → List Operation → Type 0
LastStarts part h [] os = os ≡ []
LastStarts part h (c ∷ []) os = started_by part h c ≡ os
LastStarts part h (c ∷ (d ∷ cs)) os = (started_by part h c ≡ []) × LastStarts part (after part h c) (d ∷ cs) os

-- and so do all of them together
pub last-starts-all : (part : ℕ) (h : Chip) (cs : List Cycle) (os : List Operation) → LastStarts part h cs os → started_in part h cs ≡ os
last-starts-all part h [] os l = sym l
last-starts-all part h (c ∷ []) os l = append-nil (started_by part h c) ∙ l
last-starts-all part h (c ∷ (d ∷ cs)) os l = rw l.0 (last-starts-all part (after part h c) (d ∷ cs) os l.1)

pub record Leads (part : ℕ) (h : Chip) (cs : List Cycle) (h' : Chip) (os : List Operation) : Type 0 where
  pub played : play part h cs ≡ h'
  pub last : LastStarts part h cs os

pub ends : {part : ℕ} {h h' : Chip} {c : Cycle} {os : List Operation} → Moves part h c h' os → Leads part h (c ∷ []) h' os
ends m = record { played = m.left; last = m.starts }

pub then : {part : ℕ} {h h₁ h₂ : Chip} {c d : Cycle} {cs : List Cycle} {os : List Operation}
    → Moves part h c h₁ [] → Leads part h₁ (d ∷ cs) h₂ os → Leads part h (c ∷ (d ∷ cs)) h₂ os
then {part} {h} {h₁} {h₂} {c} {d} {cs} {os} m l =
    record {
      played = ap (λ (h : Chip). play part h (d ∷ cs)) m.left ∙ l.played;
      last = (m.starts, rw m.left l.last);
    }

-- ---- no cut
pub uncut-append : (cs ds : List Cycle) → uncut cs ≡ true → uncut ds ≡ true → uncut (cs ++ ds) ≡ true
uncut-append [] ds a b = b
uncut-append (c ∷ cs) ds a b = let w = both (uncut_action c.action) (uncut cs) a in rw w.0 (uncut-append cs ds w.1 b)
