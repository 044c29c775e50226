-- Document 01, "Numbers handed back", with wishes 2, 4 and 6 of document 02; and the promises: a library answers every
-- call, of every state, sound or not, as the rules say of what is told of the state.
use Rattle.std.specs.Prelude.{Bool, not, ◌&&◌, ◌||◌, List, [], ◌∷◌, ◌++◌, ◌≢◌, ◌≡◌, ℕ, ◌*◌, ◌/◌, ◌%◌, ℤ, pos, length}
use Rattle.std.specs.Prelude.{drop, if◌then◌else◌}
use Rattle.integers.specs.Words.{minus, ◌is◌, ◌below◌, ◌=?◌, ◌≤?◌}
use Rattle.promises.specs.Library.{Told, holding, Query, Call, Reply, Answer, Refusal, ◌when◌, first, Library}
use Rattle.promises.specs.Library.{fresh, sdo, control, fault, tick, jump, query, receive, send, store, load}
use Rattle.promises.specs.Library.{search}
use Rattle.promises.specs.Library as Asked
use Rattle.promises.specs.Sheet.{sheet, line_at, is_held, in_range}
use Rattle.promises.specs.Valve as Valve
use Rattle.promises.specs.Valve.{driven, controlled, faulted, target, status, ticks, ticks_to_go, command}
use Rattle.promises.specs.Sdo.{served, reply, byte, two_from, four_from, mapped, counted, received, sent, sound_map}
use Rattle.promises.specs.Image as Image
use Rattle.promises.specs.Image.{image, full, loaded, fits}

-- what is sound
unfoldable pub sound : Told → Bool
sound t =
    -- one of the four device states
    t.state below 4
    -- every setting in range, lower limit not above upper
    && in_range sheet t.value
    && t.value 0x6321 1 ≤? t.value 0x6320 1
    && t.value 0x63A1 1 ≤? t.value 0x63A0 1
    -- position within full stroke, a phase of 32 bits, and both 0 in DISABLED and FAULT
    && (minus 1073741824 ≤? t.position && t.position ≤? pos 1073741824)
    && t.phase below 4294967296
    && (driven t.state || (t.position =? pos 0 && t.phase is 0))
    -- error code nonzero exactly in FAULT
    && (if t.state is 3 then not (t.error is 0) else t.error is 0)
    -- wish 2: sound maps
    && (sound_map t 0x1600 && sound_map t 0x1A00)
    -- wish 6: one block selected, the other at position 0
    && (t.selected below 2 && t.other =? pos 0)

-- the numbers of each call, in their order; a control word and a fault code have 16 bits
abbrev pub refusals : Call → Told → List Refusal
refusals fresh t = []
refusals (sdo request room) t =
    1 when not (sound t)
    ∷ 2 when not (length request is 8)
    ∷ 3 when (length room below 8)
    ∷ 4 when (byte request 0 / 32 is 4)
    ∷ []
refusals (control word) t = 1 when not (sound t) ∷ []
refusals (fault code) t = 1 when not (sound t) ∷ 5 when (code % 65536 is 0) ∷ []
refusals tick t = 1 when not (sound t) ∷ []
refusals (jump n) t = 1 when not (sound t) ∷ []
refusals (query q) t = 1 when not (sound t) ∷ []
refusals (receive pdo) t = 1 when not (sound t) ∷ 14 when (length pdo below 2 * mapped t 0x1600 0) ∷ []
refusals (send room) t = 1 when not (sound t) ∷ 3 when (length room below 2 * mapped t 0x1A00 0) ∷ []
refusals (store room) t = 1 when not (sound t) ∷ 6 when (length room below 97) ∷ []
refusals (load bytes) t =
    1 when not (sound t)
    ∷ 9 when not (t.state is 0)
    ∷ 7 when not (full bytes)
    ∷ 8 when not (fits bytes t)
    ∷ []
refusals (search bytes tag) t = let n = (Image.search bytes tag).number in 7 when (n is 7) ∷ 10 when (n is 10) ∷ []

-- fresh is DISABLED, with every value as the sheet has it
unfoldable pub fresh_told : Told
fresh_told =
    record {
      state = 0;
      control = 0;
      error = 0;
      selected = 0;
      position = pos 0;
      other = pos 0;
      phase = 0;
      value = λ index sub. let l = line_at index sub in if is_held l then l.fresh else pos 0;
    }

-- what can be asked
abbrev pub asked : Query → Told → ℤ
asked Asked.state t = pos t.state
asked Asked.status t = pos (status t)
asked Asked.error t = pos t.error
asked Asked.position t = t.position
asked Asked.target t = target t
asked Asked.command t = command t
asked Asked.ticks_to_go t = pos (ticks_to_go t)

-- a reply that has no part
abbrev pub replied : ℕ → List ℕ → ℤ → Reply
replied number room value = record { number = number; room = room; value = value; begin = 0; part = [] }

-- what is told then, the room and the value
abbrev leaving : Told → List ℕ → ℤ → Answer Told
leaving t room value = record { state = t; reply = replied 0 room value }

-- what a call does that is not refused
abbrev pub does : Call → Told → Answer Told
does fresh t = leaving fresh_told [] (pos 0)
does (sdo request room) t =
    let command = byte request 0 in
    let index = two_from request 1 in
    let sub = byte request 3 in
    let n = four_from request 4 in
    leaving (served command index sub n t) (reply command index sub n t ++ drop 8 room) (pos 0)
does (control word) t = leaving (controlled (word % 65536) t) [] (pos 0)
does (fault code) t = leaving (faulted (code % 65536) t) [] (pos 0)
does tick t = leaving (Valve.tick t) [] (pos 0)
does (jump n) t = leaving (ticks n t) [] (pos 0)
does (query q) t = leaving t [] (asked q t)
does (receive pdo) t = leaving (received (counted t 0x1600) pdo t) [] (pos 0)
does (send room) t =
    let long = 2 * mapped t 0x1A00 0 in
    leaving t (sent (counted t 0x1A00) t ++ drop long room) (pos long)
does (store room) t = leaving t (image t ++ drop 97 room) (pos 0)
does (load bytes) t = leaving (holding t.selected (loaded bytes t) t) [] (pos 0)
does (search bytes tag) t = record { state = t; reply = Image.search bytes tag }

-- the room that a call is lent
abbrev pub lent : Call → List ℕ
lent fresh = []
lent (sdo request room) = room
lent (control word) = []
lent (fault code) = []
lent tick = []
lent (jump n) = []
lent (query q) = []
lent (receive pdo) = []
lent (send room) = room
lent (store room) = room
lent (load bytes) = []
lent (search bytes tag) = []

pub record Promises (L : Library) : Type 0 where
  pub fresh : L.told L.fresh ≡ fresh_told
  -- the number handed back is the first in the order whose condition holds, and 0 where none does
  pub number : (c : Call) (s : L.State) → (L.answer c s).reply.number ≡ first (refusals c (L.told s))
  -- refused, the state comes back as it came, the room as it was lent, the value 0 and an empty part
  pub refused :
      (c : Call) (s : L.State) → (L.answer c s).reply.number ≢ 0 →
      ((L.answer c s).state ≡ s) × ((L.answer c s).reply ≡ replied (L.answer c s).reply.number (lent c) (pos 0))
  -- done, what is told of the state then and all that the caller sees are the rules'
  pub done :
      (c : Call) (s : L.State) → (L.answer c s).reply.number ≡ 0 →
      (L.told (L.answer c s).state ≡ (does c (L.told s)).state) × ((L.answer c s).reply ≡ (does c (L.told s)).reply)
