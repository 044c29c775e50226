-- Document 01, "Device states": the four states by their numbers, and the moves of a control word.
use Rattle.std.specs.Prelude.{Bool, not, ◌&&◌, ◌||◌, ℕ, ◌/◌, ◌%◌, ◌^◌, if◌then◌else◌}
use Rattle.integers.specs.Words.{◌is◌}

abbrev pub DISABLED : ℕ
DISABLED = 0

abbrev pub HOLD : ℕ
HOLD = 1

abbrev pub ACTIVE : ℕ
ACTIVE = 2

abbrev pub FAULT : ℕ
FAULT = 3

-- a control bit is set
abbrev pub bit : ℕ → ℕ → Bool
bit k word = word / 2 ^ k % 2 is 1

-- the control bits
abbrev pub leave_disabled : ℕ → Bool
leave_disabled word = bit 0 word

abbrev pub leave_hold : ℕ → Bool
leave_hold word = bit 1 word

abbrev pub mode_active : ℕ → Bool
mode_active word = bit 2 word

abbrev pub reset_fault : ℕ → Bool
reset_fault word = bit 3 word

-- DISABLED: bit 0 set, to HOLD
unfoldable pub from_disabled : ℕ → ℕ
from_disabled word = if leave_disabled word then HOLD else DISABLED

-- HOLD: bit 0 clear, to DISABLED; bits 0, 1 and 2 all set, to ACTIVE
unfoldable pub from_hold : ℕ → ℕ
from_hold word =
    if not (leave_disabled word) then DISABLED
    else if leave_disabled word && leave_hold word && mode_active word then ACTIVE
    else HOLD

-- ACTIVE: bit 0 clear, to DISABLED; bit 0 set with bit 1 or 2 clear, to HOLD
unfoldable pub from_active : ℕ → ℕ
from_active word =
    if not (leave_disabled word) then DISABLED
    else if not (leave_hold word) || not (mode_active word) then HOLD
    else ACTIVE

-- FAULT: bit 3 set where the word stored before had it clear, to DISABLED
unfoldable pub from_fault : ℕ → ℕ → ℕ
from_fault before word = if reset_fault word && not (reset_fault before) then DISABLED else FAULT

-- the state after an accepted control word, where `before` is the word stored until then: at most one move
unfoldable pub next_state : ℕ → ℕ → ℕ → ℕ
next_state state before word =
    if state is DISABLED then from_disabled word
    else if state is HOLD then from_hold word
    else if state is ACTIVE then from_active word
    else from_fault before word

-- in HOLD and ACTIVE the valve is driven; in DISABLED and FAULT its position is 0
unfoldable pub driven : ℕ → Bool
driven state = state is HOLD || state is ACTIVE
