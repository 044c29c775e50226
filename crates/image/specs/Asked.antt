-- What the functions of the image ask of what they are handed, and what a walk gives.
use Rattle.std.specs.Prelude.{List, ◌≡◌, true, ℕ, ◌+◌, ◌<◌, ◌≤◌, ℤ, length, Ok, Err}
use Rattle.objects.specs.Places.{SETTINGS}
use Rattle.coding.specs.Coding.{Held}
use Rattle.block.specs.Sound.{sound_settings}
use Rattle.image.specs.Fields.{IMAGE_LENGTH, size_at, field_length, start}
use Rattle.image.specs.Walk.{Found, walk}

-- sound settings, and room for their image
pub record Storing (settings : List ℤ) (bytes : List ℕ) : Type 0 where
  pub sound : sound_settings settings ≡ true
  pub room : IMAGE_LENGTH ≤ length bytes

-- a setting, a value of its type, and room for its field
pub record Putting (room : List ℕ) (from place : ℕ) (value : ℤ) : Type 0 where
  pub below : place < SETTINGS
  pub held : Held (size_at place) value
  pub fits : from + field_length place ≤ length room

-- a setting, and where its field starts
pub record Starts (from place : ℕ) : Type 0 where
  pub below : place < SETTINGS
  pub starts : from ≡ start place

-- a place no further than a full image is long: a few more are still a usize
pub record Near (k : ℕ) : Type 0 where
  pub near : k ≤ IMAGE_LENGTH

-- a part that was found lies within the image
abbrev pub Lies : List ℕ → Found → Type 0
Lies image (Ok part) = (part.start ≤ part.end) × (part.end ≤ length image)
Lies image (Err miss) = Unit {0}

-- what the walk meets
pub record Walked (image : List ℕ) (tag : ℕ) (r : Found) : Type 0 where
  pub found : r ≡ walk image tag
  pub lies : Lies image r
