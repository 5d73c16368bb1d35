use Rattle.std.proofs.Common.{inl}
use Rattle.pdb_handles.proofs.identity.copy_key.Goals as goal

pub returns-in-0 : goal.returns-in-0
returns-in-0 c = rw c.in-0.is (c.copy_made.ensures _ (rw c.from_bytes_le-guid.ensures at c.upper_text.ensures))

pub returns-in-1 : goal.returns-in-1
returns-in-1 c = rw c.in-1.is (c.copy_made-in-1.ensures _ (rw c.from_bytes_le-guid.ensures at c.lower_text.ensures))

pub returns-in-2 : goal.returns-in-2
returns-in-2 c = rw c.in-2.is (inl (rw c.from_bytes_le-guid.ensures at c.copy_guid.ensures))
