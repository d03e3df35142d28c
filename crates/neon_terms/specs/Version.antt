-- The version of the library: semantic versioning of the C names, the layouts, the numbers, the texts and the scripts.
use Rattle.std.specs.Prelude.{ℕ, ◌+◌, ◌*◌}

abbrev pub version_of : (major minor patch : ℕ) → ℕ
version_of major minor patch = major * 1000000 + minor * 1000 + patch

abbrev pub version : ℕ
version = version_of 1 0 0
