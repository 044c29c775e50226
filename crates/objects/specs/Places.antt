-- The places of the values in the table: first the stored settings, in tag order (a tag is the place and one),
-- then the others that can be written, then those that are read only.
use Rattle.std.specs.Prelude.{ℕ}

abbrev pub HOLD_SET_POINT : ℕ
HOLD_SET_POINT = 0

abbrev pub UPPER_LIMIT : ℕ
UPPER_LIMIT = 1

abbrev pub LOWER_LIMIT : ℕ
LOWER_LIMIT = 2

abbrev pub SCALING_FACTOR : ℕ
SCALING_FACTOR = 3

abbrev pub SCALING_OFFSET : ℕ
SCALING_OFFSET = 4

abbrev pub ZERO_CORRECTION : ℕ
ZERO_CORRECTION = 5

abbrev pub RAMP_TYPE : ℕ
RAMP_TYPE = 6

abbrev pub ACCELERATION : ℕ
ACCELERATION = 7

abbrev pub ACCELERATION_POSITIVE : ℕ
ACCELERATION_POSITIVE = 8

abbrev pub ACCELERATION_NEGATIVE : ℕ
ACCELERATION_NEGATIVE = 9

abbrev pub DECELERATION : ℕ
DECELERATION = 10

abbrev pub DECELERATION_POSITIVE : ℕ
DECELERATION_POSITIVE = 11

abbrev pub DECELERATION_NEGATIVE : ℕ
DECELERATION_NEGATIVE = 12

abbrev pub DEAD_BAND_TYPE : ℕ
DEAD_BAND_TYPE = 13

abbrev pub A_SIDE : ℕ
A_SIDE = 14

abbrev pub B_SIDE : ℕ
B_SIDE = 15

abbrev pub THRESHOLD : ℕ
THRESHOLD = 16

abbrev pub DITHER_TYPE : ℕ
DITHER_TYPE = 17

abbrev pub DITHER_AMPLITUDE : ℕ
DITHER_AMPLITUDE = 18

abbrev pub DITHER_FREQUENCY : ℕ
DITHER_FREQUENCY = 19

-- a map has five: its number of entries, and then the four entries
abbrev pub RECEIVE_MAP : ℕ
RECEIVE_MAP = 20

abbrev pub TRANSMIT_MAP : ℕ
TRANSMIT_MAP = 25

abbrev pub SET_POINT : ℕ
SET_POINT = 30

abbrev pub SELECTION : ℕ
SELECTION = 31

abbrev pub CONTROL_WORD : ℕ
CONTROL_WORD = 32

abbrev pub STATUS_WORD : ℕ
STATUS_WORD = 33

abbrev pub ERROR_CODE : ℕ
ERROR_CODE = 34

abbrev pub COMMAND : ℕ
COMMAND = 35

-- how many are stored settings, how many can be written, and how many there are
abbrev pub SETTINGS : ℕ
SETTINGS = 17

abbrev pub WRITABLE : ℕ
WRITABLE = 33

abbrev pub ROWS : ℕ
ROWS = 36

-- the two blocks by the numbers that 2000h has for them
abbrev pub POSITION : ℕ
POSITION = 0

abbrev pub PRESSURE : ℕ
PRESSURE = 1
