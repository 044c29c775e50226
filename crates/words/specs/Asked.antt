-- What the functions on words ask of what they are handed.
use Rattle.std.specs.Prelude.{Bool, true, List, ◌≡◌, ℕ, ◌+◌, ◌<◌, ◌≤◌, ℤ, length, Result}
use Rattle.objects.specs.Places.{SETTINGS, SELECTION}
use Rattle.dictionary.specs.Asked.{Writing, Decided}
use Rattle.dictionary.specs.declared.Decision.{Decision}
use Rattle.dictionary.specs.declared.Abort.{Abort}
use Rattle.words.specs.Stored.{start_of, word_of}
use Rattle.words.specs.Words.{OTHER_BLOCK, WORDS, hold_map, hold_device}

-- the place of a word
pub record Place (k : ℕ) : Type 0 where
  pub below : k < WORDS

-- a place from which there are words for all settings
pub record Settings (from : ℕ) : Type 0 where
  pub below : from + SETTINGS ≤ WORDS

-- a place up to the other block's, from which there are words for a block
pub record Blocks (from : ℕ) : Type 0 where
  pub below : from ≤ OTHER_BLOCK

-- and for a map
pub record Mapped (from : ℕ) : Type 0 where
  pub below : from + 4 < WORDS

-- words that hold a map there
pub record HeldMap (words : List ℤ) (from : ℕ) : Type 0 where
  pub mapped : Mapped from
  pub held : hold_map words from ≡ true

-- words that hold a device
pub record Held (words : List ℤ) : Type 0 where
  pub held : hold_device words ≡ true

-- a block that begins there, and a place with a word of its own
pub record OneWord (start place : ℕ) : Type 0 where
  pub begins : start ≤ OTHER_BLOCK
  pub own : place < SELECTION

-- its word
pub record Standing (start place r : ℕ) : Type 0 where
  pub stands : r ≡ word_of start place
  pub below : r < WORDS

-- whether words hold a device; an array has as many as its type says
pub record Tested (words : List ℤ) (r : Bool) : Type 0 where
  pub result : r ≡ hold_device words
  pub long : length words ≡ WORDS

-- where the block of a number begins
pub record Started (which : ℕ) (words : List ℤ) (r : ℕ) : Type 0 where
  pub start : r ≡ start_of which words
  pub begins : r ≤ OTHER_BLOCK

-- words that hold a device, and a value for an object that can be written
pub record Written (words : List ℤ) (place : ℕ) (x : ℤ) : Type 0 where
  pub held : Held words
  pub writing : Writing place x

-- words that hold a device, and what was decided
pub record Carried (words : List ℤ) (decision : Result Decision Abort) : Type 0 where
  pub held : Held words
  pub decided : Decided decision
