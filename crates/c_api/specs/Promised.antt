-- What the exported calls promise together: what each leaves is determined (`rainsheave_find_code` has the library's own contract), a refusal
-- leaves every word and every byte, and from words that hold a sound device each call leads to words that hold one, that of the library's
-- answer, so that the next call finds what the last one left.
use Rattle.std.specs.Prelude.{true, List, ◌≢◌, ◌≡◌, ℕ, ◌≤◌, ℤ, length}
use Rattle.device.specs.Device.{fresh_device}
use Rattle.device.specs.Sound.{Sound}
use Rattle.device.specs.declared.Device.{Device}
use Rattle.rainsheave.specs.Calls.{sdo_answer, control_answer, fault_answer, tick_answer, jump_answer, receive_answer, load_answer}
use Rattle.rainsheave.specs.declared.Change.{Change}
use Rattle.words.specs.Words.{WORDS, TWO_BYTES, device_in, hold_device}
use Rattle.c_api.specs.declared.Reading.{Reading}
use Rattle.c_api.specs.declared.Sent.{Sent}
use Rattle.c_api.specs.declared.Part.{Part}
use Rattle.c_api.specs.Exported.{FreshIs, ChangeIs, SdoIs, ReadRequestIs, WriteRequestIs, QueryIs, SendIs, StoreIs, FindIs}

-- two that meet the same contract are equal, words and bytes included
pub record Determined : Type 0 where
  pub fresh : {a b : List ℤ} → FreshIs a → FreshIs b → a ≡ b
  pub change :
      {answer : Device → Change} {before a b : List ℤ} {r s : ℕ} → ChangeIs answer before a r → ChangeIs answer before b s → (r ≡ s) × (a ≡ b)
  pub sdo :
      {request : List ℕ} {before a b : List ℤ} {room left left' : List ℕ} {r s : ℕ} →
      SdoIs request before a room left r → SdoIs request before b room left' s → (r ≡ s) × (a ≡ b) × (left ≡ left')
  pub read_request : {index sub : ℕ} {a b : List ℕ} → ReadRequestIs index sub a → ReadRequestIs index sub b → a ≡ b
  pub write_request :
      {index sub size number : ℕ} {a b : List ℕ} → WriteRequestIs index sub size number a → WriteRequestIs index sub size number b → a ≡ b
  pub query : {value : Device → ℤ} {words : List ℤ} {r s : Reading} → QueryIs value words r → QueryIs value words s → r ≡ s
  pub send :
      {words : List ℤ} {room left left' : List ℕ} {r s : Sent} →
      SendIs words room left r → SendIs words room left' s → (r.length ≡ s.length) × (r.number ≡ s.number) × (left ≡ left')
  pub store :
      {words : List ℤ} {room left left' : List ℕ} {r s : ℕ} → StoreIs words room left r → StoreIs words room left' s → (r ≡ s) × (left ≡ left')
  pub find :
      {image : List ℕ} {tag : ℕ} {r s : Part} →
      FindIs image tag r → FindIs image tag s → (r.begin ≡ s.begin) × (r.length ≡ s.length) × (r.number ≡ s.number)

-- with another number than 0 each word is as it was
abbrev pub Unchanged : (Device → Change) → Type 0
Unchanged answer = (before after : List ℤ) (r : ℕ) → length before ≡ WORDS → ChangeIs answer before after r → r ≢ 0 → after ≡ before

pub record Refusing : Type 0 where
  pub control : (word : ℕ) → Unchanged (λ d. control_answer d word)
  pub fault : (code : ℕ) → Unchanged (λ d. fault_answer d code)
  pub tick : Unchanged tick_answer
  pub jump : (n : ℕ) → Unchanged (λ d. jump_answer d n)
  pub receive : (pdo : List ℕ) → Unchanged (λ d. receive_answer d pdo)
  pub load : (image : List ℕ) → Unchanged (λ d. load_answer d image)
  -- and each byte of the room
  pub sdo :
      {request : List ℕ} {before after : List ℤ} {room left : List ℕ} {r : ℕ} →
      length before ≡ WORDS → SdoIs request before after room left r → r ≢ 0 → (after ≡ before) × (left ≡ room)
  pub send : {words : List ℤ} {room left : List ℕ} {r : Sent} → SendIs words room left r → r.number ≢ 0 → (left ≡ room) × (r.length ≡ 0)
  pub store : {words : List ℤ} {room left : List ℕ} {r : ℕ} → StoreIs words room left r → r ≢ 0 → left ≡ room

-- the words hold this device, which is sound
pub record HoldSound (words : List ℤ) (d : Device) : Type 0 where
  pub holds : hold_device words ≡ true
  pub device : device_in words ≡ d
  pub sound : Sound d

-- from words that hold a sound device to words that hold that of the answer
abbrev pub Leads : (Device → Change) → Type 0
Leads answer = (before after : List ℤ) (r : ℕ) (d : Device) → HoldSound before d → ChangeIs answer before after r → HoldSound after (answer d).device

pub record Lasting : Type 0 where
  pub fresh : {after : List ℤ} → FreshIs after → HoldSound after fresh_device
  pub control : (word : ℕ) → word ≤ TWO_BYTES → Leads (λ d. control_answer d word)
  pub fault : (code : ℕ) → code ≤ TWO_BYTES → Leads (λ d. fault_answer d code)
  pub tick : Leads tick_answer
  pub jump : (n : ℕ) → Leads (λ d. jump_answer d n)
  pub receive : (pdo : List ℕ) → Leads (λ d. receive_answer d pdo)
  pub load : (image : List ℕ) → Leads (λ d. load_answer d image)
  pub sdo :
      {request : List ℕ} {before after : List ℤ} {room left : List ℕ} {r : ℕ} (d : Device) →
      HoldSound before d → SdoIs request before after room left r → HoldSound after (sdo_answer d request (length room)).device

pub record Promised : Type 0 where
  pub determined : Determined
  pub refusing : Refusing
  pub lasting : Lasting
