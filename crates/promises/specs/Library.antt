-- What is told of a state of the valve, in numerals; and a library of this valve, whoever has written it. Its states
-- are opaque, so that what is promised of it can cite nothing of its own.
use Rattle.std.specs.Prelude.{Bool, List, [], ◌∷◌, ℕ, ℤ, if◌then◌else◌}

-- what is told of a state
pub record Told : Type 0 where
  -- 0 DISABLED, 1 HOLD, 2 ACTIVE, 3 FAULT
  pub state : ℕ
  -- the control word stored last, 6040h
  pub control : ℕ
  -- 604Eh
  pub error : ℕ
  -- 2000h: 0 position block, 1 pressure block
  pub selected : ℕ
  -- in 1/65,536 ir: of the selected block, and of the other one
  pub position : ℤ
  pub other : ℤ
  -- the dither's
  pub phase : ℕ
  -- every other value that can be written, by index and sub-index; 0 where there is none
  pub value : ℕ → ℕ → ℤ

-- with another state, control word, error code, position and phase, and all else as it was
abbrev pub moved : ℕ → ℕ → ℕ → ℤ → ℕ → Told → Told
moved state control error position phase t =
    record {
      state = state;
      control = control;
      error = error;
      selected = t.selected;
      position = position;
      other = t.other;
      phase = phase;
      value = t.value;
    }

-- with another block selected and other values, and all else as it was
abbrev pub holding : ℕ → (ℕ → ℕ → ℤ) → Told → Told
holding selected value t =
    record {
      state = t.state;
      control = t.control;
      error = t.error;
      selected = selected;
      position = t.position;
      other = t.other;
      phase = t.phase;
      value = value;
    }

-- what can be asked
pub data Query : Type 0 where
  state : Query
  status : Query
  error : Query
  position : Query
  target : Query
  command : Query
  ticks_to_go : Query

-- the calls, with what they are handed; the last list of `sdo`, `send` and `store` is a room lent for bytes;
-- `search` is `find` with `find_code`
pub data Call : Type 0 where
  fresh : Call
  sdo : List ℕ → List ℕ → Call
  control : ℕ → Call
  fault : ℕ → Call
  tick : Call
  jump : ℕ → Call
  query : Query → Call
  receive : List ℕ → Call
  send : List ℕ → Call
  store : List ℕ → Call
  load : List ℕ → Call
  search : List ℕ → ℕ → Call

-- what the caller sees: the number handed back; its room; the value of a query, or how many bytes were sent; where in
-- its image a part was found, and that part
pub record Reply : Type 0 where
  pub number : ℕ
  pub room : List ℕ
  pub value : ℤ
  pub begin : ℕ
  pub part : List ℕ

pub record Answer (State : Type 0) : Type 0 where
  pub state : State
  pub reply : Reply

-- a number, and when it is given; the first of a list whose condition holds, and 0 where none does
pub record Refusal : Type 0 where
  pub number : ℕ
  pub holds : Bool

infix 70 ◌when◌
abbrev pub ◌when◌ : ℕ → Bool → Refusal
n when t = record { number = n; holds = t }

abbrev pub first : List Refusal → ℕ
first [] = 0
first (r ∷ rest) = if r.holds then r.number else first rest

-- a library: its states, a fresh one, what it answers to each call, and what is told of a state
pub record Library : Type 1 where
  pub State : Type 0
  pub fresh : State
  pub answer : Call → State → Answer State
  pub told : State → Told

-- what the caller sees of a history of calls, each handed the state of the one before, and the state at its end
abbrev pub replies : (L : Library) → List Call → L.State → List Reply
replies L [] s = []
replies L (c ∷ calls) s = (L.answer c s).reply ∷ replies L calls (L.answer c s).state

abbrev pub end : (L : Library) → List Call → L.State → L.State
end L [] s = s
end L (c ∷ calls) s = end L calls (L.answer c s).state
