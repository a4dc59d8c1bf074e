mod Adding
mod Releasing
mod Laid
mod Asking
mod Looking
mod Fresh
