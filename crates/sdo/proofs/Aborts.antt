-- Where an abort's reply comes from: from a write that meets the fifth place, or with another place's code. Each is what the dictionary's decision has.
use Rattle.std.specs.Prelude.{Result, Ok, Err}
use mathlib.Core.Logic.{◌≢◌}
use mathlib.Core.Path.{◌≡◌, refl}
use Prim.Native.Nat.{ℕ, ◌<◌}
use Rattle.objects.specs.Places.{WRITABLE}
use Rattle.objects.specs.Table.{row_at}
use Rattle.objects.proofs.Rules.{below_writable}
use Rattle.device.specs.declared.Device.{Device}
use Rattle.dictionary.specs.Named.{value, named}
use Rattle.dictionary.specs.Decide.{size_abort, write_of, write_decision}
use Rattle.dictionary.specs.declared.Decision.{Decision}
use Rattle.dictionary.specs.declared.Abort.{Abort}
use Rattle.dictionary.proofs.Aborts.{Other, AbortListed, size_aborts, by_read, by_write, read_listed, write_listed}
use Rattle.sdo.specs.Frames.{asks_of}
use Rattle.sdo.specs.Serve.{decision_by, decision_on, outcome_of, served}
use Rattle.sdo.specs.declared.Request.{Request}
use Rattle.sdo.specs.declared.Asks.{Asks}
use Rattle.sdo.specs.declared.Asks.TheVariants.{Reads, Writes}
use Rattle.sdo.specs.declared.Outcome.{Outcome}
use Rattle.sdo.specs.declared.Outcome.TheVariants.{Read, Written, Abort as Aborted}
use Rattle.sdo.proofs.Frames.{asks_unknown}

-- a request that meets the fifth place: a write of so many bytes to the value of an object that can be written and has not so many
pub record Meets (q : Request) (which place size : ℕ) : Type 0 where
  pub asks : asks_of q.command ≡ Ok (Writes size)
  pub found : named q.index q.sub ≡ value which place
  pub below : place < WRITABLE
  pub differs : (row_at place).size ≢ size

-- it is aborted with the code of that place
pub meets_aborts : (d : Device) (q : Request) (which place size : ℕ) → Meets q which place size → (served d q).outcome ≡ Aborted (size_abort (row_at place).size size)
unfolding served decision_on write_decision write_of
meets_aborts d q which place size m = rw (m.asks, m.found, size_aborts d which place size _ (below_writable place m.below) m.differs)

-- and what holds of that abort, of those with another place's code, and of all that is not aborted holds of every outcome
pub by_outcome : (P : Outcome → Type 0) (d : Device) (q : Request) → ((which place size : ℕ) → Meets q which place size → P (Aborted (size_abort (row_at place).size size))) → ((abort : Abort) → Other abort → P (Aborted abort)) → ((size number : ℕ) → P (Read size number)) → P Written → P (served d q).outcome
unfolding served decision_on
by_outcome P d q meets other read written = by (asks_of q.command) refl
  where
    of : Result Decision Abort → Type 0
    of v = P (outcome_of v)

    by : (a : Result Asks Abort) → asks_of q.command ≡ a → of (decision_by a d q)
    by (Ok Reads) f = by_read of d q.index q.sub other read
    by (Ok (Writes size)) f =
        by_write of d q.index q.sub size q.number
        (λ which place n b s. meets which place size (record { asks = f; found = n; below = b; differs = s }))
        other
        (λ which place x. written)
    by (Err abort) f = other abort (rw (asks_unknown q.command abort f))

-- no request is aborted by a code of a caller's own
pub decision_listed : (d : Device) (q : Request) → AbortListed (decision_on d q)
unfolding decision_on
decision_listed d q = by (asks_of q.command) refl
  where
    by : (a : Result Asks Abort) → asks_of q.command ≡ a → AbortListed (decision_by a d q)
    by (Ok Reads) f = read_listed d q.index q.sub
    by (Ok (Writes size)) f = write_listed d q.index q.sub size q.number
    by (Err abort) f = rw (asks_unknown q.command abort f)
