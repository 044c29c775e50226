-- Document 01, "Device states", "From set point to target", "Ramp" and "Command", with wishes 3, 4 and 6 of document
-- 02. A state is 0 DISABLED, 1 HOLD, 2 ACTIVE, 3 FAULT; positions are in 1/65,536 ir.
use Rattle.std.specs.Prelude.{Bool, not, ◌&&◌, ◌||◌, ℕ, zero, suc, ◌+◌, ◌-◌, ◌*◌, ◌/◌, ◌%◌, ◌^◌, max, ℤ, pos, neg_ℤ}
use Rattle.std.specs.Prelude.{nat_abs, ◌+ℤ◌, ◌-ℤ◌, ◌*ℤ◌, if◌then◌else◌}
use Rattle.integers.specs.Words.{minus, ◌over◌, ◌<?◌, ◌=?◌, ◌is◌, ◌below◌}
use Rattle.promises.specs.Library.{Told, moved}

-- ==== Device states

-- a bit is set
abbrev pub bit : ℕ → ℕ → Bool
bit k word = word / 2 ^ k % 2 is 1

-- the state after a control word, where `before` is the word stored until then: at most one move
unfoldable pub moved_to : ℕ → ℕ → ℕ → ℕ
moved_to state before word =
    -- DISABLED: bit 0 set, to HOLD
    if state is 0 then (if bit 0 word then 1 else 0)
    -- HOLD: bit 0 clear, to DISABLED; bits 0, 1 and 2 all set, to ACTIVE
    else if state is 1 then (if not (bit 0 word) then 0 else if bit 0 word && bit 1 word && bit 2 word then 2 else 1)
    -- ACTIVE: bit 0 clear, to DISABLED; bit 0 set with bit 1 or 2 clear, to HOLD
    else if state is 2 then (if not (bit 0 word) then 0 else if not (bit 1 word) || not (bit 2 word) then 1 else 2)
    -- FAULT: bit 3 set where the word stored before had it clear, to DISABLED; the other bits don't matter
    else if bit 3 word && not (bit 3 before) then 0
    else 3

-- HOLD and ACTIVE
abbrev pub driven : ℕ → Bool
driven state = state is 1 || state is 2

-- in a state: entering DISABLED or FAULT sets the position to 0, and by wish 4 the phase
unfoldable pub entered : ℕ → ℕ → ℕ → Told → Told
entered state control error t =
    moved state control error (if driven state then t.position else pos 0) (if driven state then t.phase else 0) t

-- a control word is stored; out of FAULT the error code is 0
unfoldable pub controlled : ℕ → Told → Told
controlled word t =
    let state = moved_to t.state t.control word in
    entered state word (if state is 3 then t.error else 0) t

-- a fault report leads from every state to FAULT; in FAULT the first code stays
unfoldable pub faulted : ℕ → Told → Told
faulted code t = entered 3 t.control (if t.state is 3 then t.error else code) t

-- ==== From set point to target

-- a value of the selected block, by its index in the position block; in the pressure block it is 80h above
abbrev pub selected : Told → ℕ → ℕ → ℤ
selected t index sub = t.value (index + 0x80 * t.selected) sub

-- x, or the limit that it lies beyond
unfoldable pub clamp : ℤ → ℤ → ℤ → ℤ
clamp lower upper x = if x <? lower then lower else if upper <? x then upper else x

-- the target in ir: both corrections are added as whole numbers, once each
unfoldable pub target : Told → ℤ
target t =
    let input = if t.state is 2 then selected t 0x6300 1 else selected t 0x6314 1 in
    let limited = clamp (selected t 0x6321 1) (selected t 0x6320 1) input in
    let scaled = (limited *ℤ selected t 0x6322 0) over 65536 in
    clamp (minus 16384) (pos 16384) (scaled +ℤ selected t 0x6323 1 +ℤ selected t 0x6324 1)

abbrev pub target_position : Told → ℤ
target_position t = target t *ℤ pos 65536

-- the status word: in HOLD and ACTIVE 256 is added while position equals target
unfoldable pub status : Told → ℕ
status t =
    let met : ℕ = if t.position =? target_position t then 256 else 0 in
    if t.state is 0 then 8
    else if t.state is 1 then 9 + met
    else if t.state is 2 then 15 + met
    else 0

-- ==== Ramp: types 0 none, 1 one time, 2 two times, 3 four times

-- the time away from zero, on the side of z
unfoldable pub away_time : Told → ℤ → ℤ
away_time t z =
    if selected t 0x6330 0 =? pos 3 then (if z <? pos 0 then selected t 0x6333 1 else selected t 0x6332 1)
    else selected t 0x6331 1

-- the time toward zero, on the side of z
unfoldable pub toward_time : Told → ℤ → ℤ
toward_time t z =
    if selected t 0x6330 0 =? pos 3 then (if z <? pos 0 then selected t 0x6336 1 else selected t 0x6335 1)
    else if selected t 0x6330 0 =? pos 2 then selected t 0x6334 1
    else selected t 0x6331 1

-- the step of a time: time 0 has that of time 1
unfoldable pub step_of : ℤ → ℕ
step_of time = 1073741824 / max (nat_abs time) 1

-- a and b are on opposite sides of zero
unfoldable pub opposite : ℤ → ℤ → Bool
opposite a b = (a <? pos 0 && pos 0 <? b) || (b <? pos 0 && pos 0 <? a)

-- beyond zero from the target, or farther out, p decelerates on its own side; else it accelerates on the target's
unfoldable pub step_from : Told → ℤ → ℕ
step_from t p =
    let goal = target_position t in
    if opposite goal p || nat_abs goal below nat_abs p then step_of (toward_time t p) else step_of (away_time t goal)

-- types 2 and 3 stop at zero on the way to its far side; by wish 3 type 1 does not
unfoldable pub halts : Told → ℤ → Bool
halts t p = opposite (target_position t) p && pos 1 <? selected t 0x6330 0

-- p moved by a step toward a goal, stopping there
unfoldable pub stepped : ℤ → ℕ → ℤ → ℤ
stepped goal step p =
    if not (step below nat_abs (p -ℤ goal)) then goal
    else if p <? goal then p +ℤ pos step
    else p -ℤ pos step

-- the position after a tick in HOLD or ACTIVE
unfoldable pub ticked : Told → ℤ
ticked t =
    let p = t.position in
    if selected t 0x6330 0 =? pos 0 then target_position t
    else stepped (if halts t p then pos 0 else target_position t) (step_from t p) p

-- a tick: in DISABLED and FAULT it changes nothing; by wish 4 the phase's 32 bits run over their end on purpose
unfoldable pub tick : Told → Told
tick t =
    let phase = (t.phase + nat_abs (t.value 0x6362 1) * 4294967296 / 1000) % 4294967296 in
    if driven t.state then moved t.state t.control t.error (ticked t) phase t else t

-- a jump is so many ticks
unfoldable pub ticks : ℕ → Told → Told
ticks zero t = t
ticks (suc n) t = tick (ticks n t)

-- a distance over a step, rounded up
unfoldable pub rounded_up : ℕ → ℕ → ℕ
rounded_up distance step = (distance + (step - 1)) / step

-- ticks to go: 0 in DISABLED and FAULT and at the target; with a halt the sum for the way to zero and for the way on
unfoldable pub ticks_to_go : Told → ℕ
ticks_to_go t =
    let p = t.position in
    let goal = target_position t in
    if not (driven t.state) || p =? goal then 0
    else if selected t 0x6330 0 =? pos 0 then 1
    else if halts t p then rounded_up (nat_abs p) (step_from t p) + rounded_up (nat_abs goal) (step_from t (pos 0))
    else rounded_up (nat_abs (p -ℤ goal)) (step_from t p)

-- ==== Command

-- wish 4: by what the triangle multiplies the amplitude
unfoldable pub height : ℕ → ℤ
height x =
    if x below 16384 then pos x
    else if x below 49152 then pos 32768 -ℤ pos x
    else pos x -ℤ pos 65536

-- the dither in ir: 0 off, 1 square, 2 triangle
unfoldable pub dither : Told → ℤ
dither t =
    let amplitude = t.value 0x6361 1 in
    if t.value 0x6360 0 =? pos 0 then pos 0
    else if t.value 0x6360 0 =? pos 1 then (if t.phase below 2147483648 then amplitude else neg_ℤ amplitude)
    else (amplitude *ℤ height (t.phase / 65536)) over 16384

-- the position in whole ir
unfoldable pub whole : Told → ℤ
whole t = t.position over 65536

-- behind the dead band: A side is added above the threshold, B side taken off below its negative, and 0 is between
unfoldable pub banded : Told → ℤ
banded t =
    let r = whole t in
    if selected t 0x6342 0 =? pos 0 then r
    else if selected t 0x6345 1 <? r then r +ℤ selected t 0x6343 1
    else if r <? neg_ℤ (selected t 0x6345 1) then r -ℤ selected t 0x6344 1
    else pos 0

-- the command in ir: 0 in DISABLED and FAULT; the dither is added after the dead band and before the last clamp
unfoldable pub command : Told → ℤ
command t = if driven t.state then clamp (minus 16384) (pos 16384) (banded t +ℤ dither t) else pos 0
