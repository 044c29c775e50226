-- Demands 1 to 3, of any library that keeps the promises, said of what the caller is answered and of what is told.
use Rattle.std.specs.Prelude.{if◌then◌else◌}
use Rattle.std.specs.Prelude.{Bool, true, false, not, ◌&&◌, ◌||◌, List, [], ◌∷◌, ◌≢◌, ◌≡◌, ℕ, suc, ◌+◌, ◌-◌, ◌*◌, ◌%◌}
use Rattle.std.specs.Prelude.{◌^◌, ◌≤◌, ◌<◌, ℤ, pos, nat_abs, ◌+ℤ◌, ◌-ℤ◌, ◌*ℤ◌, length, replicate, get_or, take, drop}
use Rattle.integers.specs.Words.{◌<?◌, ◌is◌, ◌below◌, ◌among◌}
use Rattle.integers.specs.Range.{Within}
use Rattle.promises.specs.Library.{Told, holding, Query, sdo, control, tick, jump, query, send, store, load}
use Rattle.promises.specs.Library.{search, status, position, target, ticks_to_go, first, Library, replies, end}
use Rattle.promises.specs.Sheet.{Line, line_at, has_entry, is_read_only}
use Rattle.promises.specs.Valve as Valve
use Rattle.promises.specs.Valve.{bit, moved_to, driven, selected, target_position, step_of, opposite, step_from}
use Rattle.promises.specs.Valve.{halts, stepped, rounded_up}
use Rattle.promises.specs.Sdo.{number_for, stands_for, crosses, mapped, map_aborts, low_first, frame, byte}
use Rattle.promises.specs.Image.{tagged}
use Rattle.promises.specs.Promises.{sound, replied}

-- ==== Demand 1: what `number` and `refused` of the promises say, and this

pub record Demand1 (L : Library) : Type 0 where
  -- a reply whose first byte is 80h leaves what is told as it was
  pub aborted :
      (request room : List ℕ) (s : L.State) → byte (L.answer (sdo request room) s).reply.room 0 ≡ 0x80 →
      L.told (L.answer (sdo request room) s).state ≡ L.told s
  -- bytes after the eighth of a reply's room, after the map's length of a PDO's and after the 97th of an image's stay
  pub later_replied :
      (request room : List ℕ) (s : L.State) → drop 8 (L.answer (sdo request room) s).reply.room ≡ drop 8 room
  pub later_sent :
      (room : List ℕ) (s : L.State) →
      let long = 2 * mapped (L.told s) 0x1A00 0 in drop long (L.answer (send room) s).reply.room ≡ drop long room
  pub later_stored : (room : List ℕ) (s : L.State) → drop 97 (L.answer (store room) s).reply.room ≡ drop 97 room

-- ==== Demand 2: a write that no rule forbids is acknowledged and read back, and leaves all else; storing and loading
-- bring the same settings back

-- the state after a request, and the eight bytes of its reply
abbrev pub state_after : (L : Library) → List ℕ → L.State → L.State
state_after L request s = (L.answer (sdo request (replicate 8 0)) s).state

abbrev pub reply_to : (L : Library) → List ℕ → L.State → List ℕ
reply_to L request s = (L.answer (sdo request (replicate 8 0)) s).reply.room

-- the request that reads an entry, and its reply
abbrev pub reading : ℕ → ℕ → List ℕ
reading index sub = frame 0x40 index sub 0

abbrev pub telling : ℕ → ℕ → ℕ → List ℕ
telling index sub n =
    let bytes = (line_at index sub).kind.bytes in
    frame (if bytes is 1 then 0x4F else if bytes is 2 then 0x4B else 0x43) index sub n

-- the request that writes as many bytes of a number as the entry's type has
abbrev pub writing : ℕ → ℕ → ℕ → List ℕ
writing index sub n =
    let bytes = (line_at index sub).kind.bytes in
    frame (if bytes is 1 then 0x2F else if bytes is 2 then 0x2B else 0x23) index sub n

-- a write that no rule forbids: its entry can be written in this state, the value is in range, it crosses no limits and
-- meets no rule of a map
pub record Allowed (t : Told) (index sub n : ℕ) : Type 0 where
  pub unlocked : (t.state among (line_at index sub).writable) ≡ true
  pub range : let kind = (line_at index sub).kind in Within kind.low kind.high (stands_for kind n)
  pub uncrossed : crosses t index (stands_for (line_at index sub).kind n) ≡ false
  pub unruled :
      (index among 0x1600 ∷ 0x1A00 ∷ []) ≡ true →
      first (map_aborts t index sub (nat_abs (stands_for (line_at index sub).kind n))) ≡ 0

-- one of the 17 tagged entries
abbrev pub is_tagged : List Line → ℕ → ℕ → Bool
is_tagged [] index sub = false
is_tagged (l ∷ lines) index sub = (l.index is index && l.sub is sub) || is_tagged lines index sub

-- the values of one state there, and elsewhere those of another
abbrev pub settings_of : Told → Told → ℕ → ℕ → ℤ
settings_of from to index sub = if is_tagged tagged index sub then from.value index sub else to.value index sub

-- of a state of which something sound is told
pub record Demand2 (L : Library) (s : L.State) : Type 0 where
  -- a write that no rule forbids is acknowledged
  pub acknowledged :
      (index sub n : ℕ) → Allowed (L.told s) index sub n → reply_to L (writing index sub n) s ≡ frame 0x60 index sub 0
  -- and read back, as many low bytes of the number as the type has
  pub read_back :
      (index sub n : ℕ) → Allowed (L.told s) index sub n →
      reply_to L (reading index sub) (state_after L (writing index sub n) s)
      ≡ telling index sub (n % 256 ^ (line_at index sub).kind.bytes)
  -- and every other entry that can be written reads as before
  pub others :
      (index sub n : ℕ) → Allowed (L.told s) index sub n →
      (i j : ℕ) → is_read_only (line_at i j) ≡ false → (index is i && sub is j) ≡ false →
      reply_to L (reading i j) (state_after L (writing index sub n) s) ≡ reply_to L (reading i j) s
  -- whatever is not replied by 60h changes nothing
  pub unwritten :
      (request : List ℕ) → byte (reply_to L request s) 0 ≢ 0x60 → L.told (state_after L request s) ≡ L.told s
  -- each entry of a fresh state reads as the sheet has it
  pub fresh_read :
      (index sub : ℕ) → has_entry index sub ≡ true → let l = line_at index sub in
      reply_to L (reading index sub) L.fresh ≡ telling index sub (number_for l.kind l.fresh)
  -- `control` is a write of 6040h
  pub control_word :
      (word : ℕ) → L.told (L.answer (control word) s).state ≡ L.told (state_after L (writing 0x6040 0 word) s)
  -- bits 4 to 15 of a control word, and of the one stored before, are without effect on the move
  pub low_bits : (state before word : ℕ) → moved_to state before word ≡ moved_to state (before % 16) (word % 16)
  -- the first 97 bytes after a store, loaded into a sound disabled state, bring the 17 settings and leave all else
  pub stored :
      (e : L.State) (room : List ℕ) → sound (L.told e) ≡ true → (L.told e).state ≡ 0 → 97 ≤ length room →
      let a = L.answer (load (take 97 (L.answer (store room) s).reply.room)) e in
      (a.reply.number ≡ 0)
      × (L.told a.state ≡ holding (L.told e).selected (settings_of (L.told s) (L.told e)) (L.told e))
  -- and a search in them finds each tag's value
  pub tag_found :
      (room : List ℕ) (k : ℕ) → 97 ≤ length room → k < 17 →
      let l = get_or tagged k (line_at 0 0) in
      let r = (L.answer (search (take 97 (L.answer (store room) s).reply.room) (k + 1)) s).reply in
      (r.number ≡ 0)
      × (r.part ≡ take l.kind.bytes (low_first (number_for l.kind ((L.told s).value l.index l.sub))))

-- ==== Demand 3: where n ticks lead, one jump for n ticks, and the tick at which the target is met

-- p moved by a distance toward a goal
unfoldable pub toward : ℤ → ℕ → ℤ → ℤ
toward goal distance p = if p <? goal then p +ℤ pos distance else p -ℤ pos distance

-- document 01, "Ramp": the closed formula for n ticks
unfoldable pub position_after : ℕ → Told → ℤ
position_after n t =
    let p = t.position in
    let goal = target_position t in
    let k = rounded_up (nat_abs p) (step_from t p) in
    -- 0 in DISABLED and FAULT
    if not (driven t.state) then pos 0
    -- else the target from the tick on that meets it
    else if not (n below Valve.ticks_to_go t) then goal
    -- with a halt and k ticks to zero, from tick k on it is n - k steps out on the target's side
    else if halts t p && not (n below k) then toward goal ((n - k) * step_from t (pos 0)) (pos 0)
    -- before, start plus n steps toward the target
    else toward goal (n * step_from t p) p

-- the state after n calls of `tick`
abbrev pub after : (L : Library) → ℕ → L.State → L.State
after L n s = end L (replicate n tick) s

-- the value of a query
abbrev pub asks : (L : Library) → Query → L.State → ℤ
asks L q s = (L.answer (query q) s).reply.value

-- what `position` answers after n calls of `tick`; what `ticks_to_go` answers; 65,536 times what `target` answers
abbrev pub position_at : (L : Library) → ℕ → L.State → ℤ
position_at L n s = asks L position (after L n s)

abbrev pub to_go : (L : Library) → L.State → ℕ
to_go L s = nat_abs (asks L ticks_to_go s)

abbrev pub goal : (L : Library) → L.State → ℤ
goal L s = asks L target s *ℤ pos 65536

-- of a state of which something sound is told
pub record Demand3 (L : Library) (s : L.State) : Type 0 where
  -- n calls of `tick` are done, and so is one call of `jump` by n
  pub done : (n : ℕ) → let done = replied 0 [] (pos 0) in
      (replies L (replicate n tick) s ≡ replicate n done) × ((L.answer (jump n) s).reply ≡ done)
  -- after which the same is told
  pub jumps : (n : ℕ) → L.told (after L n s) ≡ L.told (L.answer (jump n) s).state
  -- a jump of 0 changes nothing
  pub none : L.told (L.answer (jump 0) s).state ≡ L.told s
  -- `position` answers the closed formula after n ticks
  pub formula : (n : ℕ) → (L.answer (query position) (after L n s)).reply ≡ replied 0 [] (position_after n (L.told s))
  -- in HOLD and ACTIVE `ticks_to_go` answers the least n for which that is the target: from there on it is, not before
  pub kept : driven (L.told s).state ≡ true → (n : ℕ) → to_go L s ≤ n → position_at L n s ≡ goal L s
  pub first : driven (L.told s).state ≡ true → (n : ℕ) → n < to_go L s → position_at L n s ≢ goal L s
  -- never after tick 7,206,322
  pub latest : to_go L s ≤ 7206322
  -- and in ramp type 1 never after tick 7,206,321
  pub latest_in_type_one : selected (L.told s) 0x6330 0 ≡ pos 1 → to_go L s ≤ 7206321
  -- in DISABLED and FAULT it answers 0, and so does `position`
  pub at_rest : driven (L.told s).state ≡ false → (to_go L s ≡ 0) × ((n : ℕ) → position_at L n s ≡ pos 0)
  -- until the target is met no position comes twice, so that at most one of them is zero
  pub once : (m n : ℕ) → m < n → n ≤ to_go L s → position_at L m s ≢ position_at L n s
  -- in HOLD and ACTIVE, in ramp type 1, it answers the whole distance over the step of 6331h, rounded up
  pub ticks_in_type_one :
      driven (L.told s).state ≡ true → selected (L.told s) 0x6330 0 ≡ pos 1 →
      to_go L s ≡ rounded_up (nat_abs (position_at L 0 s -ℤ goal L s)) (step_of (selected (L.told s) 0x6331 1))
  -- and n ticks move the position by n steps straight toward the target, stopping only there
  pub position_in_type_one :
      driven (L.told s).state ≡ true → selected (L.told s) 0x6330 0 ≡ pos 1 → (n : ℕ) →
      position_at L n s ≡ stepped (goal L s) (n * step_of (selected (L.told s) 0x6331 1)) (position_at L 0 s)
  -- in ramp types 2 and 3 no tick crosses zero
  pub uncrossed :
      (pos 1 <? selected (L.told s) 0x6330 0) ≡ true → (n : ℕ) →
      opposite (position_at L n s) (position_at L (suc n) s) ≡ false
  -- in HOLD and ACTIVE bit 8 of the status word is set exactly where no tick is left
  pub arrived : driven (L.told s).state ≡ true → to_go L s ≡ 0 → bit 8 (nat_abs (asks L status s)) ≡ true
  pub under_way : driven (L.told s).state ≡ true → 0 < to_go L s → bit 8 (nat_abs (asks L status s)) ≡ false
