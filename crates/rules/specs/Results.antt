-- The results and causes that a response tells, by the names that TS 102 223 gives them, and the sizes that the paper sets.
use Rattle.std.specs.Prelude.{ℕ}

-- performed; with an object that was ignored; with less than was asked; with a lesser grant
abbrev pub performed : ℕ
performed = 0x00

abbrev pub partly_understood : ℕ
partly_understood = 0x01

abbrev pub missing_information : ℕ
missing_information = 0x02

abbrev pub modified : ℕ
modified = 0x07

-- a timer that does not run is stopped or asked for; what the profile does not allow; an unknown type; data that cannot be read; a required object that is absent
abbrev pub timer_contradiction : ℕ
timer_contradiction = 0x24

abbrev pub beyond_capabilities : ℕ
beyond_capabilities = 0x30

abbrev pub type_not_understood : ℕ
type_not_understood = 0x31

abbrev pub data_not_understood : ℕ
data_not_understood = 0x32

abbrev pub values_missing : ℕ
values_missing = 0x36

-- a problem of a channel, with its cause: no number is unused; the link was dropped; the channel is not open; no room or no cells; no such transport level
abbrev pub channel_problem : ℕ
channel_problem = 0x3A

abbrev pub no_channel : ℕ
no_channel = 0x01

abbrev pub channel_closed : ℕ
channel_closed = 0x02

abbrev pub channel_invalid : ℕ
channel_invalid = 0x03

abbrev pub size_unavailable : ℕ
size_unavailable = 0x04

abbrev pub level_unavailable : ℕ
level_unavailable = 0x06

-- the least buffer of a command, of an arrival and a drop, and of an envelope
abbrev pub response_cap : ℕ
response_cap = 255

abbrev pub event_cap : ℕ
event_cap = 16

abbrev pub envelope_cap : ℕ
envelope_cap = 14

-- the most bytes of a command, of data that RECEIVE DATA hands out, of an event list or data that the bench writes, and the greatest count told
abbrev pub command_cap : ℕ
command_cap = 256

abbrev pub data_cap : ℕ
data_cap = 237

abbrev pub value_cap : ℕ
value_cap = 241

abbrev pub count_cap : ℕ
count_cap = 255
