-- The writes in sequence: one table, to be laid beside the data sheets' command tables.
use Rattle.std.specs.Prelude.{ℕ, ◌%◌, Bool, true, false, List, [], ◌∷◌, eqb}
use Rattle.parts.specs.Names.{PROGRAM, SECTOR, BLOCK, CHIP, NONE-BEGUN, FIRST-AAH, FIRST-55H, ARMED, GONE-ON, SECOND-AAH, SECOND-55H}
use Rattle.parts.specs.Pick.{pick}
use Rattle.parts.specs.Span.{has_blocks}
use Rattle.parts.specs.declared.table.Row.{Row}
use Rattle.commands.specs.declared.effect.Mode.TheVariants.{ReadMode, Identification}
use Rattle.commands.specs.declared.effect.Effect.{Effect}
use Rattle.commands.specs.declared.effect.Effect.TheVariants.{Goes, Starts, Enters}

-- what a write has to be: a byte at U1, at U2 or at any address; or anything
pub data Wanted : Type 0 where
  AtU1 : ℕ → Wanted
  AtU2 : ℕ → Wanted
  At : ℕ → Wanted
  Anything : Wanted

-- a write at a stage that is what it has to be has an effect: the sequence goes on to a stage, an operation starts, or a mode is entered
pub record Rule : Type 0 where
  pub stage : ℕ
  pub wanted : Wanted
  pub effect : Effect

abbrev pub rule : ℕ → Wanted → Effect → Rule
rule s w e = record { stage = s; wanted = w; effect = e }

-- a write that does not continue the sequence returns to read mode
abbrev pub broken : Effect
broken = Enters ReadMode

-- the block code starts nothing where the part has no blocks
abbrev pub block_erase : Row → Effect
block_erase r = pick (has_blocks r) (Starts BLOCK) broken

-- the data sheets' command table, stage by stage
abbrev pub commands : Row → List Rule
commands r =
    rule NONE-BEGUN (AtU1 0xaa) (Goes FIRST-AAH)
    ∷ rule FIRST-AAH (AtU2 0x55) (Goes FIRST-55H)
    ∷ rule FIRST-55H (AtU1 0xa0) (Goes ARMED)
    ∷ rule ARMED Anything (Starts PROGRAM)
    ∷ rule FIRST-55H (AtU1 0x80) (Goes GONE-ON)
    ∷ rule GONE-ON (AtU1 0xaa) (Goes SECOND-AAH)
    ∷ rule SECOND-AAH (AtU2 0x55) (Goes SECOND-55H)
    ∷ rule SECOND-55H (At r.sector_code) (Starts SECTOR)
    ∷ rule SECOND-55H (At r.block_code) (block_erase r)
    ∷ rule SECOND-55H (AtU1 0x10) (Starts CHIP)
    ∷ rule FIRST-55H (AtU1 0x90) (Enters Identification)
    ∷ rule FIRST-55H (AtU1 0xf0) (Enters ReadMode)
    ∷ []

-- unlock addresses are compared on the low bits, command bytes on the low eight data bits
abbrev pub is_wanted : Row → ℕ → ℕ → Wanted → Bool
is_wanted r a x (AtU1 b) = pick (eqb (a % r.compared) r.u1) (eqb (x % 256) b) false
is_wanted r a x (AtU2 b) = pick (eqb (a % r.compared) r.u2) (eqb (x % 256) b) false
is_wanted r a x (At b) = eqb (x % 256) b
is_wanted r a x Anything = true

-- the effect of the first rule that a write meets; a write that meets none is broken
abbrev pub first_met : Row → List Rule → ℕ → ℕ → ℕ → Effect
first_met r [] s a x = broken
first_met r (u ∷ us) s a x = pick (pick (eqb s u.stage) (is_wanted r a x u.wanted) false) u.effect (first_met r us s a x)

unfoldable pub effect_of : Row → ℕ → ℕ → ℕ → Effect
effect_of r s a x = first_met r (commands r) s a x
