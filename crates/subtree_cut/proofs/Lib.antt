mod Lists
mod Outside
mod InOrder
mod Weighed
mod Noted
mod Each
mod Stopped
