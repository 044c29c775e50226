-- What each exported call is fixed to leave, in every case: the number, the value, every word of the device and every byte of each lent
-- buffer. What it is of the device that the words hold, the library's own answer says; words that hold none are refused as an unsound
-- device is, and left as they are.
use Rattle.std.specs.Prelude.{List, ◌≡◌, ℕ, ℤ, length, if◌then◌else◌, Result, Err}
use Rattle.device.specs.Device.{fresh_device}
use Rattle.device.specs.Numbers.{UNSOUND}
use Rattle.device.specs.declared.Device.{Device}
use Rattle.device.specs.declared.refusal.Refusal.{Refusal}
use Rattle.device.specs.declared.refusal.Refusal.TheVariants.{Unsound}
use Rattle.image.specs.Walk.{walk, part_of, begin_of, code_of}
use Rattle.sdo.specs.Frames.{read_request, write_request, number_handed_back}
use Rattle.rainsheave.specs.Calls.{number_of_report, value_told, bytes_sent, query_answer, sdo_answer, sdo_room, send_answer, send_room, store_answer, store_room}
use Rattle.rainsheave.specs.declared.Change.{Change}
use Rattle.words.specs.Words.{words_of, device_in, hold_device}
use Rattle.c_api.specs.declared.Reading.{Reading}
use Rattle.c_api.specs.declared.Sent.{Sent}
use Rattle.c_api.specs.declared.Part.{Part}

-- what is so of the device that words hold, and what where they hold none
abbrev pub of_device : {A : Type 0} → List ℤ → (Device → A) → A → A
of_device words answer none = if hold_device words then answer (device_in words) else none

-- `rainsheave_fresh`
pub record FreshIs (after : List ℤ) : Type 0 where
  pub words : after ≡ words_of fresh_device

-- a call that changes the device, by what the library answers: control, fault, tick, jump, receive, load
pub record ChangeIs (answer : Device → Change) (before after : List ℤ) (r : ℕ) : Type 0 where
  pub number : r ≡ of_device before (λ d. number_of_report (answer d).report) UNSOUND
  pub words : after ≡ of_device before (λ d. words_of (answer d).device) before

-- `rainsheave_sdo` of a request, with the room for the reply before and after
pub record SdoIs (request : List ℕ) (before after : List ℤ) (room left : List ℕ) (r : ℕ) : Type 0 where
  pub number : r ≡ of_device before (λ d. number_handed_back (sdo_answer d request (length room)).outcome) UNSOUND
  pub words : after ≡ of_device before (λ d. words_of (sdo_answer d request (length room)).device) before
  pub bytes : left ≡ of_device before (λ d. sdo_room d request room) room

-- `rainsheave_read_request` and `rainsheave_write_request`: the eight bytes
pub record ReadRequestIs (index sub : ℕ) (after : List ℕ) : Type 0 where
  pub bytes : after ≡ read_request index sub

pub record WriteRequestIs (index sub size number : ℕ) (after : List ℕ) : Type 0 where
  pub bytes : after ≡ write_request index sub size number

-- what a query tells: its value beside the number 0, or 0 beside that of a refusal
abbrev pub reading_of : Result ℤ Refusal → Reading
reading_of told = record { value = value_told told; number = number_of_report told }

-- a query, by the value that it tells
pub record QueryIs (value : Device → ℤ) (words : List ℤ) (r : Reading) : Type 0 where
  pub result : r ≡ of_device words (λ d. reading_of (query_answer d (value d))) (reading_of (Err Unsound))

-- `rainsheave_send`, with the room for the PDO before and after
pub record SendIs (words : List ℤ) (room left : List ℕ) (r : Sent) : Type 0 where
  pub sent : r.length ≡ of_device words (λ d. bytes_sent (send_answer d (length room))) 0
  pub number : r.number ≡ of_device words (λ d. number_of_report (send_answer d (length room))) UNSOUND
  pub bytes : left ≡ of_device words (λ d. send_room d room) room

-- `rainsheave_store`, with the room for the image before and after
pub record StoreIs (words : List ℤ) (room left : List ℕ) (r : ℕ) : Type 0 where
  pub number : r ≡ of_device words (λ d. number_of_report (store_answer d (length room))) UNSOUND
  pub bytes : left ≡ of_device words (λ d. store_room d room) room

-- `rainsheave_find` of a tag in an image: where the part begins, how long it is, and the number of the search
pub record FindIs (image : List ℕ) (tag : ℕ) (r : Part) : Type 0 where
  pub begin : r.begin ≡ begin_of (walk image tag)
  pub long : r.length ≡ length (part_of image (walk image tag))
  pub number : r.number ≡ code_of (walk image tag)
