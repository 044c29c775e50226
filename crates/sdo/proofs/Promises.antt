-- What the service promises: a sound device stays sound, all but an acknowledged write leaves the device as it was, and an acknowledged write is read back. Each is what the dictionary's decision promises.
use Rattle.std.specs.Prelude.{Result, Ok, Err}
use mathlib.Core.Logic.{◌≢◌}
use mathlib.Core.Path.{◌≡◌, refl}
use Prim.Native.Nat.{ℕ, ◌<◌, ◌%◌}
use Rattle.integers.proofs.Cases.{apart}
use Rattle.objects.specs.Places.{WRITABLE}
use Rattle.objects.specs.Lookup.{Object}
use Rattle.coding.specs.Coding.{span}
use Rattle.device.specs.Sound.{Sound}
use Rattle.device.specs.declared.Device.{Device}
use Rattle.dictionary.specs.Named.{value}
use Rattle.dictionary.specs.Values.{value_at}
use Rattle.dictionary.specs.Decide.{carried_out}
use Rattle.dictionary.specs.declared.Decision.{Decision}
use Rattle.dictionary.specs.declared.Decision.TheVariants.{Read as Reading, Write}
use Rattle.dictionary.specs.declared.Abort.{Abort}
use Rattle.dictionary.proofs.Decisions as Decisions
use Rattle.sdo.specs.Frames.{asks_of}
use Rattle.sdo.specs.Acknowledged.{Acknowledged}
use Rattle.sdo.specs.Serve.{decision_by, decision_on, outcome_of, served}
use Rattle.sdo.specs.declared.Request.{Request}
use Rattle.sdo.specs.declared.Asks.{Asks}
use Rattle.sdo.specs.declared.Asks.TheVariants.{Reads, Writes}
use Rattle.sdo.specs.declared.Outcome.TheVariants.{Read, Written, Abort as Aborted}

-- ---- all but an acknowledged write leaves the device as it was

pub not_written_unchanged : (d : Device) (q : Request) → (served d q).outcome ≢ Written → (served d q).device ≡ d
unfolding served
not_written_unchanged d q = by (decision_on d q)
  where
    by : (v : Result Decision Abort) → outcome_of v ≢ Written → carried_out v d ≡ d
    by (Ok (Reading size number)) h = refl
    by (Ok (Write which place x)) h = absurd (h refl)
    by (Err abort) h = refl

pub abort_unchanged : (d : Device) (q : Request) (abort : Abort) → (served d q).outcome ≡ Aborted abort → (served d q).device ≡ d
abort_unchanged d q abort e = not_written_unchanged d q (λ f. apart (cc))

pub read_unchanged : (d : Device) (q : Request) (size number : ℕ) → (served d q).outcome ≡ Read size number → (served d q).device ≡ d
read_unchanged d q size number e = not_written_unchanged d q (λ f. apart (cc))

-- ---- a sound device stays sound

pub served_sound : {d : Device} → Sound d → (q : Request) → Sound (served d q).device
unfolding served decision_on
served_sound {d} s q = by (asks_of q.command)
  where
    by : (a : Result Asks Abort) → Sound (carried_out (decision_by a d q) d)
    by (Ok Reads) = Decisions.read_sound s q.index q.sub
    by (Ok (Writes size)) = Decisions.write_sound s q.index q.sub size q.number
    by (Err abort) = s

-- ---- an acknowledged write

pub acknowledged : (d : Device) (q : Request) → (served d q).outcome ≡ Written → Acknowledged d q
unfolding served decision_on
acknowledged d q h = by_asks (asks_of q.command) refl
  where
    by_decision : (a : Result Asks Abort) → asks_of q.command ≡ a → (v : Result Decision Abort) → decision_by a d q ≡ v → outcome_of v ≡ Written → Acknowledged d q
    by_decision a f (Ok (Reading size number)) e k = apart (cc)
    by_decision (Ok Reads) f (Ok (Write which place x)) e k = absurd (Decisions.read_writes_nothing d q.index q.sub which place x e)
    by_decision (Ok (Writes size)) f (Ok (Write which place x)) e k =
        record { which = which; place = place; size = size; x = x; asks = f; origin = Decisions.write_origin d q.index q.sub size q.number which place x e; device = rw (f, e) }
    by_decision (Err abort) f (Ok (Write which place x)) e k = apart (cc)
    by_decision a f (Err abort) e k = apart (cc)

    by_asks : (a : Result Asks Abort) → asks_of q.command ≡ a → Acknowledged d q
    by_asks a f = by_decision a f (decision_by a d q) refl (rw f at h)

-- a read of the same entry
abbrev pub reading : Request → Request
reading q = record { command = 0x40; sub = q.sub; index = q.index; number = 0 }

-- it is read back: the same size, and the bytes that were written
pub read_back : {d : Device} → Sound d → (q : Request) (w : Acknowledged d q) → (served (served d q).device (reading q)).outcome ≡ Read w.size (q.number % span w.size)
unfolding served decision_on asks_of
read_back {d} s q w = rw (w.device, Decisions.read_back s q.index q.sub w.size q.number w.which w.place w.x w.origin)

-- and every other object that can be written is as before
pub others_unchanged : {d : Device} → Sound d → (q : Request) (w : Acknowledged d q) (v k : ℕ) → Object v k → k < WRITABLE → value v k ≢ value w.which w.place → value_at (served d q).device v k ≡ value_at d v k
others_unchanged s q w v k o h n = rw w.device (Decisions.others_unchanged s w.origin v k o h n)
