use Rattle.dict_match.proofs.VersionLaws.{empty_alike}
use Rattle.dict_index.proofs.laws.lawful_headwords.Goals as goal

pub returns : goal.returns
returns c headword = (
  λ h. (h.0, h.1, h.2, λ none. h.3 ((empty_alike headword).0 none)),
  λ h. (h.0, h.1, h.2, λ none. h.3 ((empty_alike headword).1 none)),
)
