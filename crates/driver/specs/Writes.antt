-- The writes of a command: plain values of U1, U2 and the codes.
use Rattle.std.specs.Prelude.{ℕ, Result, Ok, Err, List, [], ◌∷◌, ◌++◌, eqb, ltb, get_or, take, replicate}
use Rattle.parts.specs.Names.{PROGRAM, SECTOR, BLOCK, NO-ENTRY}
use Rattle.parts.specs.Pick.{pick, ◌when◌, ◌unless◌, ◌else◌, ◌or_else◌}
use Rattle.parts.specs.Table.{row_of}
use Rattle.parts.specs.Refused.{number_of}
use Rattle.parts.specs.declared.refusal.Refusal.{Refusal}
use Rattle.parts.specs.declared.table.Row.{Row}
use Rattle.commands.specs.declared.write.Write.{Write}
use Rattle.driver.specs.declared.writes.Writes.{Writes as Named}
use Rattle.driver.specs.Refusals.{command_refusal}

abbrev pub write : ℕ → ℕ → Write
write a x = record { address = a; «data» = x }

-- an unused place
abbrev pub no_write : Write
no_write = write 0 0

-- AAH at U1, 55H at U2
abbrev pub unlock : Row → List Write → List Write
unlock r ws = write r.u1 0xaa ∷ write r.u2 0x55 ∷ ws

-- the write that starts the operation: the data at the address, the sector or block code there, or 10H at U1
unfoldable pub last_write : Row → ℕ → ℕ → ℕ → Write
last_write r command a x =
    write a x when eqb command PROGRAM
    else write a r.sector_code when eqb command SECTOR
    else write a r.block_code when eqb command BLOCK
    else write r.u1 0x10

-- the writes of a command: A0H at U1 arms program; after 80H at U1 an erase unlocks again
unfoldable pub writes_of : Row → ℕ → ℕ → ℕ → List Write
writes_of r command a x =
    pick (eqb command PROGRAM)
    (unlock r (write r.u1 0xa0 ∷ last_write r command a x ∷ []))
    (unlock r (write r.u1 0x80 ∷ unlock r (last_write r command a x ∷ [])))

-- 4 for program, 6 for an erase
unfoldable pub write_count : ℕ → ℕ
write_count command = pick (eqb command PROGRAM) 4 6

-- a list in six places, unused ones zero
abbrev pub six_places : List Write → List Write
six_places ws = take 6 (ws ++ replicate 6 no_write)

-- one command's writes: 0 or the refusal, how many they are, and the writes
pub record Writes : Type 0 where
  pub answer : ℕ
  pub count : ℕ
  pub writes : List Write

abbrev pub writes : ℕ → ℕ → List Write → Writes
writes n count ws = record { answer = n; count = count; writes = six_places ws }

-- one command's writes together: refusals 1, 14, 3, 4
unfoldable pub command_writes : ℕ → ℕ → ℕ → ℕ → Writes
command_writes part command a x =
    pick (eqb (command_refusal part command a x) 0)
    (writes 0 (write_count command) (writes_of (row_of part) command a x))
    (writes (command_refusal part command a x) 0 [])

-- the k-th write, from 0
abbrev pub nth_write : Row → ℕ → ℕ → ℕ → ℕ → Write
nth_write r command a x k = get_or (writes_of r command a x) k no_write

-- one write: 0 or the refusal, its address and its data
pub record Kth : Type 0 where
  pub answer : ℕ
  pub address : ℕ
  pub «data» : ℕ

abbrev pub kth : ℕ → Write → Kth
kth n w = record { answer = n; address = w.address; «data» = w.«data» }

-- of the k-th write: 1, 14, 3, 4, then 15 for k past the command's writes
abbrev pub kth_refusal : ℕ → ℕ → ℕ → ℕ → ℕ → ℕ
kth_refusal part command a x k = command_refusal part command a x or_else NO-ENTRY unless ltb k (write_count command) else 0

-- the k-th write of a command, zeros beside a refusal
unfoldable pub kth_write : ℕ → ℕ → ℕ → ℕ → ℕ → Kth
kth_write part command a x k =
    pick (eqb (kth_refusal part command a x k) 0)
    (kth 0 (nth_write (row_of part) command a x k))
    (kth (kth_refusal part command a x k) no_write)

-- ---- what the calls tell: zeros beside a refusal
abbrev pub told_writes : Result Named Refusal → Writes
told_writes (Ok w) = record { answer = 0; count = w.count; writes = w.writes }
told_writes (Err e) = writes (number_of e) 0 []

abbrev pub told_write : Result Write Refusal → Kth
told_write (Ok w) = kth 0 w
told_write (Err e) = kth (number_of e) no_write
