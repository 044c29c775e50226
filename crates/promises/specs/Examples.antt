-- Document 01, "Examples": the starred ones, in the paper's order, over the rules alone, each by calls from fresh:
-- settings by SDO writes, positions by ticks. They check the rules, and no library.
use Rattle.std.specs.Prelude.{if◌then◌else◌}
use Rattle.std.specs.Prelude.{List, [], ◌∷◌, ◌++◌, map, ◌≡◌, ℕ, zero, suc, ◌-◌, ℤ, pos, negsuc, ◌*ℤ◌, replicate}
use Rattle.integers.specs.Words.{minus, ◌is◌}
use Rattle.promises.specs.Library.{Told, Query, state, position, target, command, ticks_to_go}
use Rattle.promises.specs.Library.{Call, sdo, control, fault, tick, query}
use Rattle.promises.specs.Library.{Reply, Answer, first, Library, end}
use Rattle.promises.specs.Sdo.{frame}
use Rattle.promises.specs.Promises.{refusals, fresh_told, replied, does, lent}

-- the rules as a library of their own, whose states are what is told
abbrev pub by_rules : Call → Told → Answer Told
by_rules c t =
    let number = first (refusals c t) in
    if number is 0 then does c t else record { state = t; reply = replied number (lent c) (pos 0) }

abbrev pub paper : Library
paper = record { State = Told; fresh = fresh_told; answer = by_rules; told = λ t. t }

-- a request with room for the reply; a value below zero is sent as its two's complement
abbrev request : ℕ → ℕ → ℕ → ℤ → Call
request asks index sub (pos n) = sdo (frame asks index sub n) (replicate 8 0)
request asks index sub (negsuc n) = sdo (frame asks index sub (4294967295 - n)) (replicate 8 0)

-- writes of one, two and four bytes, of the factor, and of 6314h, the input in DISABLED and HOLD
abbrev choice : ℕ → ℕ → Call
choice index n = request 0x2F index 0 (pos n)

abbrev word : ℕ → ℤ → Call
word index x = request 0x2B index 1 x

abbrev time : ℕ → ℕ → Call
time index n = request 0x23 index 1 (pos n)

abbrev factor : ℕ → Call
factor n = request 0x23 0x6322 0 (pos n)

abbrev input : ℤ → Call
input x = word 0x6314 x

-- what is told after calls from fresh; the reply to one more; to a query; to a query before each of n ticks
abbrev after : List Call → Told
after calls = end paper calls fresh_told

abbrev reply_to : Call → List Call → Reply
reply_to c calls = (by_rules c (after calls)).reply

abbrev answer : Query → List Call → Reply
answer q calls = reply_to (query q) calls

abbrev ticking : Query → ℕ → Told → List Reply
ticking q zero t = []
ticking q (suc n) t = (by_rules (query q) t).reply ∷ ticking q n (by_rules tick t).state

-- a query that is done tells a value, or so many ir as a position
abbrev tells : ℤ → Reply
tells x = replied 0 [] x

abbrev tells_ir : ℤ → Reply
tells_ir x = tells (x *ℤ pos 65536)

-- type 1 with a time, in HOLD at 0 with the target at full stroke
abbrev rising : ℕ → List Call
rising n = choice 0x6330 1 ∷ time 0x6331 n ∷ input (pos 16384) ∷ control 1 ∷ []

-- in HOLD at one position, with another as target, a type and the times 6331h and 6334h; 1024 is a step of 16 ir
abbrev between : ℤ → ℤ → ℕ → ℕ → ℕ → List Call
between here there type out back =
    input here ∷ control 1 ∷ tick ∷ choice 0x6330 type ∷ time 0x6331 out ∷ time 0x6334 back ∷ input there ∷ []

-- threshold 20, A 300, B 200, in HOLD at so many ir
abbrev dead_band : ℤ → List Call
dead_band r =
    choice 0x6342 1 ∷ word 0x6345 (pos 20) ∷ word 0x6343 (pos 300) ∷ word 0x6344 (pos 200)
    ∷ input r ∷ control 1 ∷ tick ∷ []

-- a dither of a type and a frequency, in HOLD
abbrev dither : ℕ → ℕ → List Call
dither type hertz = choice 0x6360 type ∷ word 0x6361 (pos 1024) ∷ word 0x6362 (pos hertz) ∷ control 1 ∷ []

pub record Examples : Type 0 where
  pub limits :
      answer target (word 0x6321 (minus 5000) ∷ word 0x6320 (pos 10000) ∷ factor 131072 ∷ word 0x6323 (pos 100)
      ∷ word 0x6324 (minus 50) ∷ input (minus 32768) ∷ []) ≡ tells (minus 9950)
  pub half_of_minus_one : answer target (factor 32768 ∷ input (minus 1) ∷ []) ≡ tells (pos 0)
  pub half_of_minus_three : answer target (factor 32768 ∷ input (minus 3) ∷ []) ≡ tells (minus 1)
  pub largest_factor : answer target (factor 4294967295 ∷ input (minus 16384) ∷ []) ≡ tells (minus 16384)
  pub step_of_a_second : answer position (rising 1000 ++ (tick ∷ [])) ≡ tells (pos 1073741)
  pub stroke_in_a_second : answer ticks_to_go (rising 1000) ≡ tells (pos 1001)
  pub step_of_an_hour : answer position (rising 3600000 ++ (tick ∷ [])) ≡ tells (pos 298)
  pub out_and_in :
      ticking position 9 (after (between (pos 100) (minus 50) 2 1024 512))
      ≡ map tells_ir (pos 100 ∷ pos 68 ∷ pos 36 ∷ pos 4 ∷ pos 0 ∷ minus 16 ∷ minus 32 ∷ minus 48 ∷ minus 50 ∷ [])
  pub ticks_out_and_in : answer ticks_to_go (between (pos 100) (minus 50) 2 1024 512) ≡ tells (pos 8)
  pub at_the_threshold : answer command (dead_band (pos 20)) ≡ tells (pos 0)
  pub above_it : answer command (dead_band (pos 21)) ≡ tells (pos 321)
  pub below_its_negative : answer command (dead_band (minus 21)) ≡ tells (minus 221)
  pub clamped : answer command (dead_band (minus 16300)) ≡ tells (minus 16384)
  -- 0 DISABLED, 1 HOLD, 2 ACTIVE, 3 FAULT
  pub seven_is_hold : answer state (control 7 ∷ []) ≡ tells (pos 1)
  pub seven_again_is_active : answer state (control 7 ∷ control 7 ∷ []) ≡ tells (pos 2)
  pub in_fault : answer state (control 7 ∷ fault 0x1000 ∷ []) ≡ tells (pos 3)
  pub eight_resets : answer state (control 7 ∷ fault 0x1000 ∷ control 8 ∷ []) ≡ tells (pos 0)
  pub crossed_is_aborted :
      reply_to (sdo (0x2B ∷ 0x20 ∷ 0x63 ∷ 0x01 ∷ 0xFF ∷ 0xBF ∷ 0x00 ∷ 0x00 ∷ []) (replicate 8 0)) []
      ≡ replied 0 (0x80 ∷ 0x20 ∷ 0x63 ∷ 0x01 ∷ 0x36 ∷ 0x00 ∷ 0x09 ∷ 0x06 ∷ []) (pos 0)
  pub equal_is_accepted :
      reply_to (sdo (0x2B ∷ 0x20 ∷ 0x63 ∷ 0x01 ∷ 0x00 ∷ 0xC0 ∷ 0x00 ∷ 0x00 ∷ []) (replicate 8 0)) []
      ≡ replied 0 (0x60 ∷ 0x20 ∷ 0x63 ∷ 0x01 ∷ 0x00 ∷ 0x00 ∷ 0x00 ∷ 0x00 ∷ []) (pos 0)
  -- without a star: FAULT with 8 stored; the status word of a fresh device
  pub eight_held : answer state (control 8 ∷ fault 0x1000 ∷ control 8 ∷ []) ≡ tells (pos 3)
  pub eight_anew : answer state (control 8 ∷ fault 0x1000 ∷ control 0 ∷ control 8 ∷ []) ≡ tells (pos 0)
  pub status_of_fresh :
      reply_to (sdo (0x40 ∷ 0x41 ∷ 0x60 ∷ 0x00 ∷ 0x00 ∷ 0x00 ∷ 0x00 ∷ 0x00 ∷ []) (replicate 8 0)) []
      ≡ replied 0 (0x4B ∷ 0x41 ∷ 0x60 ∷ 0x00 ∷ 0x08 ∷ 0x00 ∷ 0x00 ∷ 0x00 ∷ []) (pos 0)

-- beside the paper's examples: the wishes, and demand 3's bounds
pub record Witnesses : Type 0 where
  -- from end to end at the longest times: with the halt at zero, and in type 1, which goes straight through
  pub longest : answer ticks_to_go (between (minus 16384) (pos 16384) 2 3600000 3600000) ≡ tells (pos 7206322)
  pub longest_in_type_one : answer ticks_to_go (between (minus 16384) (pos 16384) 1 3600000 0) ≡ tells (pos 7206321)
  pub through_zero :
      ticking position 7 (after (between (pos 100) (minus 50) 1 512 0))
      ≡ map tells_ir (pos 100 ∷ pos 68 ∷ pos 36 ∷ pos 4 ∷ minus 28 ∷ minus 50 ∷ minus 50 ∷ [])
  -- dither of 250 Hz has a period of four ticks: square, and triangle
  pub square : ticking command 4 (after (dither 1 250)) ≡ map tells (pos 1024 ∷ pos 1024 ∷ minus 1024 ∷ minus 1024 ∷ [])
  pub triangle : ticking command 4 (after (dither 2 250)) ≡ map tells (pos 0 ∷ pos 1024 ∷ pos 0 ∷ minus 1024 ∷ [])
  -- the pressure block selected, its upper limit at 5000 and its set point at 10000: 6390h reads 5000, and 6310h 0
  pub pressure_drives :
      map (λ index. reply_to (request 0x40 index 1 (pos 0)) (choice 0x2000 1 ∷ word 0x63A0 (pos 5000)
      ∷ word 0x6380 (pos 10000) ∷ control 7 ∷ control 7 ∷ tick ∷ [])) (0x6390 ∷ 0x6310 ∷ [])
      ≡ replied 0 (frame 0x4B 0x6390 1 5000) (pos 0) ∷ replied 0 (frame 0x4B 0x6310 1 0) (pos 0) ∷ []
