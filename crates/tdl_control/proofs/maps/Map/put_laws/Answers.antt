use Rattle.tdl_control.proofs.KeyLemmas.{key_from_rank}
use Rattle.tdl_control.proofs.PutLemmas.{lookup-put_same, lookup-put_other, IfSome-lookup, IsMap-put, same_from_lookups}
use Rattle.tdl_control.proofs.maps.Map.put_laws.Goals as goal

pub returns : goal.returns
returns c = record {
  same_key = lookup-put_same;
  other_keys = λ m k v j differs. lookup-put_other m k v j (λ same. differs (key_from_rank k j same));
  may_have = λ m k valid. IfSome-lookup m k valid.typed;
  keeps = IsMap-put;
  told_by_lookup = same_from_lookups;
}
