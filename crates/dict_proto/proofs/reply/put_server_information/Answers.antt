use Rattle.std.proofs.Common.{◌≡◌, ℕ, List, ◌∷◌, [], ◌++◌, codes, ap, subst, append_assoc}
use Rattle.std.specs.Prelude.{decimal}
use Rattle.dict_proto.specs.Streams.{Puts}
use Rattle.dict_proto.specs.Text.{crlf, sent_line}
use Rattle.dict_proto.specs.Replies.{server_lines, server_information_octets}
use Rattle.dict_proto.proofs.reply.put_server_information.Goals as goal

-- two lines of two parts each, and an end
joined : (front host back digits line_end end : List ℕ) → front ++ (host ++ (line_end ++ (back ++ (digits ++ (line_end ++ end))))) ≡ (((front ++ host) ++ line_end) ++ (((back ++ digits) ++ line_end) ++ [])) ++ end
joined front host back digits line_end end = simp append_assoc

-- the parts of it
parts : (host : List ℕ) (count : ℕ) → codes "114 server information" ++ (crlf ++ (codes "dictcat on " ++ (host ++ (crlf ++ (codes "databases " ++ (decimal count ++ (crlf ++ (codes "." ++ crlf)))))))) ≡ server_information_octets host count
unfolding sent_line server_lines server_information_octets
parts host count = ap (λ l. codes "114 server information" ++ (crlf ++ l)) (joined (codes "dictcat on ") host (codes "databases ") (decimal count) crlf (46 ∷ crlf))

-- the same where the host's octets are told
told : (shown host : List ℕ) (count : ℕ) → shown ≡ host → codes "114 server information" ++ (crlf ++ (codes "dictcat on " ++ (shown ++ (crlf ++ (codes "databases " ++ (decimal count ++ (crlf ++ (codes "." ++ crlf))))))))
    ≡ server_information_octets host count
told shown host count e = rw e (parts host count)

pub returns : goal.returns
returns g c = subst (Puts c.put_parts.result (g.K.Sink.stream c.args.sink.now) (g.K.Sink.stream c.put_parts.new.sink)) (told c.as_bytes.result.now c.args.host.now c.args.databases c.as_bytes.ensures.value) c.put_parts.ensures
