use Rattle.std.proofs.lemmas.Slice.Eq.{bytes_eq-Decides}
use Rattle.tdl_control.proofs.KeyLemmas.{IfSome-find}
use Rattle.tdl_control.specs.declared.keys.TheConstants.{ALL_KEYS}
use Rattle.tdl_control.specs.Key.{name_of}
use Rattle.tdl_control.proofs.keys.Key.of_name.Goals as goal

-- what was found passes the test of the names
pub returns-clause-known : goal.returns-clause-known
returns-clause-known c = rw c.first_named.ensures (IfSome-find _ _ (λ key. (bytes_eq-Decides (name_of key) c.args.name.now).0) ALL_KEYS)
