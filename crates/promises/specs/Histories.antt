-- Histories of calls, and wishes 1, 2 and 4 of document 02, of any library that keeps the promises: what follows from
-- the rules and is not said there outright.
use Rattle.std.specs.Prelude.{Bool, true, false, not, ◌&&◌, List, [], ◌∷◌, ◌++◌, map, ◌≢◌, ◌≡◌, ℕ, ◌+◌, ◌*◌, ◌/◌, ◌%◌}
use Rattle.std.specs.Prelude.{◌≤◌, pos, neg_ℤ, nat_abs, replicate, drop}
use Rattle.integers.specs.Words.{each, ◌is◌, ◌among◌}
use Rattle.integers.specs.Range.{Within}
use Rattle.promises.specs.Library.{Told, target, command, Call, first, Library, end}
use Rattle.promises.specs.Library.{fresh, sdo, control, fault, tick, jump, query, receive, send, store, load}
use Rattle.promises.specs.Library.{search}
use Rattle.promises.specs.Valve.{driven, selected, dither, whole}
use Rattle.promises.specs.Sdo.{aborts, frame, byte, two_from, mapped, counted, sound_map}
use Rattle.promises.specs.Promises.{sound}

-- a call that can change a setting, a set point, the selection, a map or a value of the dither: an acknowledged write
-- to another object than 6040h, a received PDO with another one, a load, `fresh`
abbrev pub alters : (L : Library) → Call → L.State → Bool
alters L fresh s = true
alters L (sdo request room) s =
    let r = (L.answer (sdo request room) s).reply in
    r.number is 0 && byte r.room 0 is 0x60 && not (two_from request 1 is 0x6040)
alters L (control word) s = false
alters L (fault code) s = false
alters L tick s = false
alters L (jump n) s = false
alters L (query q) s = false
alters L (receive pdo) s =
    let t = L.told s in
    (L.answer (receive pdo) s).reply.number is 0
    && not (each (mapped t 0x1600 0) (λ k. mapped t 0x1600 (k + 1) is 0x60400010))
alters L (send room) s = false
alters L (store room) s = false
alters L (load bytes) s = (L.answer (load bytes) s).reply.number is 0
alters L (search bytes tag) s = false

-- a list of calls none of which does
unfoldable pub alters_nothing : (L : Library) → List Call → L.State → Bool
alters_nothing L [] s = true
alters_nothing L (c ∷ calls) s = not (alters L c s) && alters_nothing L calls (L.answer c s).state

pub record Histories (L : Library) : Type 0 where
  -- a call leaves a sound state sound, so that after any calls from fresh the state is sound
  pub stays_sound : (c : Call) (s : L.State) → sound (L.told s) ≡ true → sound (L.told (L.answer c s).state) ≡ true
  pub from_fresh : (calls : List Call) → sound (L.told (end L calls L.fresh)) ≡ true
  -- and no call is ever refused by 1
  pub never_unsound : (calls : List Call) (c : Call) → (L.answer c (end L calls L.fresh)).reply.number ≢ 1
  -- values and selection change by such calls alone
  pub values_kept :
      (calls : List Call) (s : L.State) → alters_nothing L calls s ≡ true →
      ((L.told (end L calls s)).value ≡ (L.told s).value) × ((L.told (end L calls s)).selected ≡ (L.told s).selected)
  -- so, with any other calls between, whenever a sound state is back in its device state `target` answers what it did
  pub target_kept :
      (calls : List Call) (s : L.State) → sound (L.told s) ≡ true → alters_nothing L calls s ≡ true →
      (L.told (end L calls s)).state ≡ (L.told s).state →
      (L.answer (query target) (end L calls s)).reply ≡ (L.answer (query target) s).reply
  -- from ACTIVE by HOLD back to ACTIVE too
  pub active_hold_active :
      (leave back : List Call) (s : L.State) → sound (L.told s) ≡ true → (L.told s).state ≡ 2 →
      alters_nothing L leave s ≡ true → (L.told (end L leave s)).state ≡ 1 →
      alters_nothing L back (end L leave s) ≡ true → (L.told (end L back (end L leave s))).state ≡ 2 →
      (L.answer (query target) (end L back (end L leave s))).reply ≡ (L.answer (query target) s).reply

-- an SDO request as a call
abbrev pub calling : List ℕ → Call
calling request = sdo request (replicate 8 0)

-- wish 2: the SDO writes that a received PDO stands for, two bytes for each entry in map order
unfoldable pub writes_of : List ℕ → List ℕ → List Call
writes_of [] pdo = []
writes_of (e ∷ entries) pdo =
    calling (frame 0x2B (e / 65536) (e / 256 % 256) (two_from pdo 0)) ∷ writes_of entries (drop 2 pdo)

-- the writes that make a map from a fresh one: its four entries, and then their number
abbrev pub making : Told → ℕ → List Call
making t index =
    map (λ k. calling (frame 0x23 index k (mapped t index k))) (1 ∷ 2 ∷ 3 ∷ 4 ∷ [])
    ++ (calling (frame 0x2F index 0 (mapped t index 0)) ∷ [])

-- wish 1, the length of a write: every abort has one of thirteen codes, and 06070010h is none of them
pub record WriteLength : Type 0 where
  pub codes :
      (t : Told) (c index sub n : ℕ) →
      first (aborts t c index sub n) among
      (0 ∷ 0x05040001 ∷ 0x06020000 ∷ 0x06090011 ∷ 0x06010002 ∷ 0x06070012 ∷ 0x06070013 ∷ 0x06090030 ∷ 0x06090031
      ∷ 0x06090032 ∷ 0x06090036 ∷ 0x08000022 ∷ 0x06040042 ∷ 0x06040041 ∷ [])
      ≡ true

-- wish 2, process data, of a state of which something sound is told
pub record ProcessData (L : Library) (s : L.State) : Type 0 where
  -- a received PDO is its list of SDO writes, one after the other
  pub received :
      (pdo : List ℕ) → (L.answer (receive pdo) s).reply.number ≡ 0 →
      L.told (L.answer (receive pdo) s).state ≡ L.told (end L (writes_of (counted (L.told s) 0x1600) pdo) s)
  -- accepted writes lead from fresh to every sound pair of maps
  pub made :
      (t : Told) → sound_map t 0x1600 ≡ true → sound_map t 0x1A00 ≡ true → (sub : ℕ) → sub ≤ 4 →
      let now = L.told (end L (making t 0x1600 ++ making t 0x1A00) L.fresh) in
      (mapped now 0x1600 sub ≡ mapped t 0x1600 sub) × (mapped now 0x1A00 sub ≡ mapped t 0x1A00 sub)

-- wish 4, dither, of a state of which something sound is told
pub record Dithering (L : Library) (s : L.State) : Type 0 where
  -- in HOLD and ACTIVE the phase after a jump of n, which is that after n ticks
  pub phase_after :
      driven (L.told s).state ≡ true → (n : ℕ) →
      (L.told (L.answer (jump n) s).state).phase
      ≡ ((L.told s).phase + n * (nat_abs ((L.told s).value 0x6362 1) * 4294967296 / 1000)) % 4294967296
  -- no more is added than the amplitude either way
  pub within_amplitude :
      let amplitude = (L.told s).value 0x6361 1 in Within (neg_ℤ amplitude) amplitude (dither (L.told s))
  -- inside a dead band of type 1, ends included, the command is the dither alone
  pub inside_band :
      let t = L.told s in
      driven t.state ≡ true → selected t 0x6342 0 ≡ pos 1 →
      Within (neg_ℤ (selected t 0x6345 1)) (selected t 0x6345 1) (whole t) →
      (L.answer (query command) s).reply.value ≡ dither t
