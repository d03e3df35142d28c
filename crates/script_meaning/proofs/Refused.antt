-- The samples of specs/Refused.antt, computed. Assumes nothing.
use mathlib.Core.Path.{refl}
use Rattle.script_meaning.specs.Read.{reading, read}
use Rattle.script_meaning.specs.Values.{find, number}
use Rattle.script_meaning.specs.Functions.{functions, taken, indexed, applied, applied_at}
use Rattle.script_meaning.specs.Meaning.{term, commands, done, run, meant}
use Rattle.script_meaning.specs.Refused.{is_read, every, RightRead, WrongRefused}

pub right-read : RightRead
unfolding is_read every meant read reading run done commands term applied applied_at indexed taken functions find number
right-read = refl

pub wrong-refused : WrongRefused
unfolding is_read every meant read reading run done commands term applied applied_at indexed taken functions find number
wrong-refused = refl
