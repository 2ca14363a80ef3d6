use Rattle.std.proofs.Common.{◌≡◌, arith, ap, ◌∙◌}
use Rattle.std.specs.Net.Addr.{ipv6_octets, octets_of}
use Rattle.std.specs.Net.Socket.{socket_port}
use Rattle.std.specs.declared.net.ip_addr.IpAddr.TheVariants as Ip
use Rattle.handshake.specs.declared.address.Address.TheVariants.{V6}
use Rattle.handshake.specs.Socket.{of_ip, of_socket}
use Rattle.handshake.proofs.SocketBytes.{octets_of-segments_of}
use Rattle.handshake.proofs.address.v6_socket.Goals as goal

pub returns : goal.returns
returns c =
    let octets : ipv6_octets c.from_octets.result ≡ c.args.octets.now =
    ap octets_of c.from_octets.ensures ∙ octets_of-segments_of 8 c.args.octets.now (omega (arith, c.told-octets)) c.fits-octets in
    let at : of_socket c.new.result ≡ V6 c.args.octets.now c.args.port =
    ap (λ ip. of_ip ip (socket_port c.new.result)) c.new.ensures.ip
    ∙ ap (λ port. of_ip (Ip.V6 c.from_octets.result) port) c.new.ensures.port
    ∙ ap (λ o. V6 o c.args.port) octets in
    (at, c.new.ensures.flowinfo, c.new.ensures.scope_id)
