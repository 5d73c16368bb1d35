-- The source's constants are the bytes of the format.
use Rattle.std.proofs.Common.{◌≡◌, refl, ℕ, ◌++◌}
use Rattle.pdb_base.specs.Endian.{little_bytes}
use Rattle.pdb_fixtures.specs.Example.{header, directory, location, hello}
use Rattle.pdb_fixtures.specs.declared.example.TheConstants.{HEADER, SIZES, PAGES, LOCATION, HELLO}

pub is_header : HEADER.now ≡ header
unfolding header
is_header = refl

pub is_directory : (size : ℕ) → SIZES.now ++ little_bytes 4 size ++ PAGES.now ≡ directory size
unfolding directory
is_directory size = refl

pub is_location : LOCATION.now ≡ location
unfolding location
is_location = refl

pub is_hello : HELLO.now ≡ hello
unfolding hello
is_hello = refl
