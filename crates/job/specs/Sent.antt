-- The one list: the cycles that a job sends, each with its purpose, from the job and the cells by document 01's rules alone.
use Rattle.std.specs.Prelude.{ℕ, zero, suc, ◌+◌, ◌/◌, Bool, List, [], ◌∷◌, ◌++◌, map, eqb, take, drop, replicate}
use Rattle.parts.specs.Names.{PROGRAM, SECTOR}
use Rattle.parts.specs.Pick.{pick}
use Rattle.parts.specs.Width.{value_of, blank_of}
use Rattle.parts.specs.Time.{polls_of}
use Rattle.device.specs.declared.cycle.Action.TheVariants.{Read, Write}
use Rattle.device.specs.Cycle.{cycle}
use Rattle.commands.specs.declared.write.Write.{Write as Written}
use Rattle.driver.specs.Writes.{writes_of}
use Rattle.driver.specs.Machine.{confirm_after}
use Rattle.job.specs.declared.loader.Job.{Job}
use Rattle.job.specs.declared.loader.Purpose.TheVariants.{Scan, Lead, Begin, Poll, Confirm}
use Rattle.values.specs.declared.search.Decision.{Decision}
use Rattle.values.specs.declared.search.Decision.TheVariants.{NoErase, SectorErase}
use Rattle.values.specs.Search.{decision_of}
use Rattle.job.specs.Run.{Sent, sent}

-- ---- one operation: its writes at 0 µs, N polls p apart, and the confirming read
-- the writes of a command; the last one begins it
abbrev pub writes_sent : Bool → ℕ → List Written → List Sent
writes_sent wp command [] = []
writes_sent wp command (w ∷ []) = sent (Begin command) (cycle 0 wp (Write w.address w.«data»)) ∷ []
writes_sent wp command (w ∷ (v ∷ ws)) = sent Lead (cycle 0 wp (Write w.address w.«data»)) ∷ writes_sent wp command (v ∷ ws)

unfoldable pub operated : Job → ℕ → ℕ → ℕ → List Sent
operated j command a x =
    writes_sent j.wp command (writes_of j.row command a x)
    ++ (replicate (polls_of j.row command j.p) (sent Poll (cycle j.p j.wp (Read a)))
    ++ (sent Confirm (cycle confirm_after j.wp (Read a)) ∷ []))

-- ---- a sector
abbrev pub scan_read : Job → ℕ → Sent
scan_read j a = sent Scan (cycle 0 j.wp (Read a))

-- n cells are read, ascending
unfoldable pub scans : Job → ℕ → ℕ → List Sent
scans j a zero = []
scans j a (suc n) = scan_read j a ∷ scans j (a + 1) n

-- after an erase every non-blank image value is programmed, ascending
unfoldable pub fills : Job → ℕ → List ℕ → List Sent
fills j a [] = []
fills j a (x ∷ v) = pick (eqb x (blank_of j.row.width)) [] (operated j PROGRAM a x) ++ fills j (a + 1) v

-- unerased, each cell is read again, ascending, and programmed at once where its value differs
unfoldable pub looks : Job → ℕ → List ℕ → List ℕ → List Sent
looks j a [] v = []
looks j a (o ∷ l) [] = []
looks j a (o ∷ l) (x ∷ v) = scan_read j a ∷ (pick (eqb (value_of j.row.width o) x) [] (operated j PROGRAM a x) ++ looks j (a + 1) l v)

-- what a sector's decision asks for
abbrev pub carries : Job → ℕ → List ℕ → List ℕ → Decision → List Sent
carries j a l v NoErase = looks j a l v
carries j a l v SectorErase = operated j SECTOR a 0 ++ fills j a v

-- the decision of a sector that holds l and is to hold v, made from the values
abbrev pub decided_on : Job → List ℕ → List ℕ → Decision
decided_on j l v = decision_of j.row.width (map (value_of j.row.width) l) v

-- the sector from address a on
unfoldable pub sector_sent : Job → ℕ → List ℕ → List ℕ → List Sent
sector_sent j a l v = scans j a j.size ++ carries j a l v (decided_on j l v)

-- ---- n sectors from address a on, ascending
unfoldable pub sectors_sent : Job → ℕ → ℕ → List ℕ → List ℕ → List Sent
sectors_sent j a zero l v = []
sectors_sent j a (suc n) l v = sector_sent j a (take j.size l) (take j.size v) ++ sectors_sent j (a + j.size) n (drop j.size l) (drop j.size v)

-- the job's cycles
abbrev pub sent_of : Job → List ℕ → List ℕ → List Sent
sent_of j image cells = sectors_sent j j.first (j.count / j.size) (drop j.first cells) image
