-- The operations of a job as one list, from the job and the cells alone, beside the one list of cycles.
use Prim.Native.Nat.{ℕ, zero, suc, ◌+◌, ◌/◌}
use mathlib.Core.List.{List, [], ◌∷◌, ◌++◌}
use lib.Dec.{eqb}
use lib.ListN.{take, drop}
use Rattle.parts.specs.Pick.{pick}
use Rattle.parts.specs.Width.{value_of, blank_of}
use Rattle.parts.specs.Table.{row_of}
use Rattle.device.specs.declared.state.Operation.{Operation}
use Rattle.driver.specs.Talk.{operation_of}
use Rattle.job.specs.declared.loader.Job.{Job}
use Rattle.values.specs.declared.search.Decision.{Decision}
use Rattle.values.specs.declared.search.Decision.TheVariants.{NoErase, SectorErase}
use Rattle.job.specs.Sent.{decided_on}

module _ (j : Job) where
  -- the program of x at address a
  abbrev pub programming : ℕ → ℕ → List Operation
  programming a x = operation_of (row_of j.part) 0 a x ∷ []

  -- after an erase, a program for each value that is not blank
  unfoldable pub filling : ℕ → List ℕ → List Operation
  filling a [] = []
  filling a (x ∷ v) = pick (eqb x (blank_of j.row.width)) [] (programming a x) ++ filling (a + 1) v

  -- unerased, a program for each cell that differs
  unfoldable pub looking : ℕ → List ℕ → List ℕ → List Operation
  looking a [] v = []
  looking a (o ∷ l) [] = []
  looking a (o ∷ l) (x ∷ v) = pick (eqb (value_of j.row.width o) x) [] (programming a x) ++ looking (a + 1) l v

  -- of a sector from address a on, that holds l and is to hold v: what its decision asks for
  abbrev pub carrying : ℕ → List ℕ → List ℕ → Decision → List Operation
  carrying a l v NoErase = looking a l v
  carrying a l v SectorErase = operation_of (row_of j.part) 1 a 0 ∷ filling a v

  unfoldable pub sectoring : ℕ → List ℕ → List ℕ → List Operation
  sectoring a l v = carrying a l v (decided_on j l v)

  -- n sectors from address a on, ascending
  unfoldable pub sectoring_all : ℕ → ℕ → List ℕ → List ℕ → List Operation
  sectoring_all a zero l v = []
  sectoring_all a (suc n) l v = sectoring a (take j.size l) (take j.size v) ++ sectoring_all (a + j.size) n (drop j.size l) (drop j.size v)

  -- the job's operations
  abbrev pub operations_of : List ℕ → List ℕ → List Operation
  operations_of image cells = sectoring_all j.first (j.count / j.size) (drop j.first cells) image
